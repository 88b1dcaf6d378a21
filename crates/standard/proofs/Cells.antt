-- The zigzag: which module each bit of the codewords becomes, and what the remainder modules are.
-- The numbers are those of qrcodegen 1.8.0: its `draw_codewords`, given codewords in which one bit is set, makes one module dark; and given
-- codewords that are all FF it leaves the remainder modules as they were, before and after its `apply_mask`.
-- Assumes nothing.
use Prim.Native.Nat.{ℕ, ◌+◌, ◌*◌, ◌/◌, ◌%◌}
use mathlib.Core.List.{List, [], ◌∷◌, map}
use mathlib.Core.Path.{◌≡◌, refl}
use lib.ListN.{take, drop, replicate, get_or}
use Rattle.standard.specs.Numbers.{from, join}
use Rattle.standard.specs.Path.{path}
use Rattle.standard.specs.Grid.{content, grid}
use Rattle.standard.proofs.Open.{opened}

-- column and row of places of a grid of side s
pub column_row : ℕ → List ℕ → List ℕ
column_row s cs = join (map (λ i. i % s ∷ i / s ∷ []) cs)

-- version 1, the first 28 cells: up the two columns at the right, and down the next two
pub first_cells : column_row 21 (take 28 (path 1))
    ≡ 20 ∷ 20 ∷ 19 ∷ 20 ∷ 20 ∷ 19 ∷ 19 ∷ 19 ∷ 20 ∷ 18 ∷ 19 ∷ 18 ∷ 20 ∷ 17 ∷ 19 ∷ 17 ∷ 20 ∷ 16 ∷ 19 ∷ 16 ∷ 20 ∷ 15 ∷ 19 ∷ 15
    ∷ 20 ∷ 14 ∷ 19 ∷ 14 ∷ 20 ∷ 13 ∷ 19 ∷ 13 ∷ 20 ∷ 12 ∷ 19 ∷ 12 ∷ 20 ∷ 11 ∷ 19 ∷ 11 ∷ 20 ∷ 10 ∷ 19 ∷ 10 ∷ 20 ∷ 9 ∷ 19 ∷ 9
    ∷ 18 ∷ 9 ∷ 17 ∷ 9 ∷ 18 ∷ 10 ∷ 17 ∷ 10 ∷ []
unfolding opened column_row
first_cells = refl

-- version 1: up columns 10 and 9 over the timing row, in row 6, which is passed over
pub over_timing : column_row 21 (take 10 (drop 120 (path 1)))
    ≡ 12 ∷ 8 ∷ 11 ∷ 8 ∷ 12 ∷ 7 ∷ 11 ∷ 7 ∷ 12 ∷ 5 ∷ 11 ∷ 5 ∷ 12 ∷ 4 ∷ 11 ∷ 4 ∷ 12 ∷ 3 ∷ 11 ∷ 3 ∷ []
unfolding opened column_row
over_timing = refl

-- version 1: from columns 8 and 7 to columns 5 and 4, so that column 6, the timing column, is in no pair
pub past_timing : column_row 21 (take 12 (drop 180 (path 1)))
    ≡ 8 ∷ 10 ∷ 7 ∷ 10 ∷ 8 ∷ 9 ∷ 7 ∷ 9 ∷ 5 ∷ 9 ∷ 4 ∷ 9 ∷ 5 ∷ 10 ∷ 4 ∷ 10 ∷ 5 ∷ 11 ∷ 4 ∷ 11 ∷ 5 ∷ 12 ∷ 4 ∷ 12 ∷ []
unfolding opened column_row
past_timing = refl

-- version 2: beside the alignment pattern one column of the pair is left
pub beside_alignment : column_row 25 (take 12 (drop 112 (path 2)))
    ≡ 16 ∷ 22 ∷ 15 ∷ 22 ∷ 16 ∷ 21 ∷ 15 ∷ 21 ∷ 15 ∷ 20 ∷ 15 ∷ 19 ∷ 15 ∷ 18 ∷ 15 ∷ 17 ∷ 15 ∷ 16 ∷ 16 ∷ 15 ∷ 15 ∷ 15 ∷ 16 ∷ 14 ∷ []
unfolding opened column_row
beside_alignment = refl

-- version 1, all 208 places, in order
pub all_cells : path 1
    ≡ 440 ∷ 439 ∷ 419 ∷ 418 ∷ 398 ∷ 397 ∷ 377 ∷ 376 ∷ 356 ∷ 355 ∷ 335 ∷ 334 ∷ 314 ∷ 313 ∷ 293 ∷ 292 ∷ 272 ∷ 271 ∷ 251 ∷ 250 ∷ 230
    ∷ 229 ∷ 209 ∷ 208 ∷ 207 ∷ 206 ∷ 228 ∷ 227 ∷ 249 ∷ 248 ∷ 270 ∷ 269 ∷ 291 ∷ 290 ∷ 312 ∷ 311 ∷ 333 ∷ 332 ∷ 354 ∷ 353 ∷ 375 ∷ 374
    ∷ 396 ∷ 395 ∷ 417 ∷ 416 ∷ 438 ∷ 437 ∷ 436 ∷ 435 ∷ 415 ∷ 414 ∷ 394 ∷ 393 ∷ 373 ∷ 372 ∷ 352 ∷ 351 ∷ 331 ∷ 330 ∷ 310 ∷ 309 ∷ 289
    ∷ 288 ∷ 268 ∷ 267 ∷ 247 ∷ 246 ∷ 226 ∷ 225 ∷ 205 ∷ 204 ∷ 203 ∷ 202 ∷ 224 ∷ 223 ∷ 245 ∷ 244 ∷ 266 ∷ 265 ∷ 287 ∷ 286 ∷ 308 ∷ 307
    ∷ 329 ∷ 328 ∷ 350 ∷ 349 ∷ 371 ∷ 370 ∷ 392 ∷ 391 ∷ 413 ∷ 412 ∷ 434 ∷ 433 ∷ 432 ∷ 431 ∷ 411 ∷ 410 ∷ 390 ∷ 389 ∷ 369 ∷ 368 ∷ 348
    ∷ 347 ∷ 327 ∷ 326 ∷ 306 ∷ 305 ∷ 285 ∷ 284 ∷ 264 ∷ 263 ∷ 243 ∷ 242 ∷ 222 ∷ 221 ∷ 201 ∷ 200 ∷ 180 ∷ 179 ∷ 159 ∷ 158 ∷ 117 ∷ 116
    ∷ 96 ∷ 95 ∷ 75 ∷ 74 ∷ 54 ∷ 53 ∷ 33 ∷ 32 ∷ 12 ∷ 11 ∷ 10 ∷ 9 ∷ 31 ∷ 30 ∷ 52 ∷ 51 ∷ 73 ∷ 72 ∷ 94 ∷ 93 ∷ 115
    ∷ 114 ∷ 157 ∷ 156 ∷ 178 ∷ 177 ∷ 199 ∷ 198 ∷ 220 ∷ 219 ∷ 241 ∷ 240 ∷ 262 ∷ 261 ∷ 283 ∷ 282 ∷ 304 ∷ 303 ∷ 325 ∷ 324 ∷ 346 ∷ 345
    ∷ 367 ∷ 366 ∷ 388 ∷ 387 ∷ 409 ∷ 408 ∷ 430 ∷ 429 ∷ 260 ∷ 259 ∷ 239 ∷ 238 ∷ 218 ∷ 217 ∷ 197 ∷ 196 ∷ 194 ∷ 193 ∷ 215 ∷ 214 ∷ 236
    ∷ 235 ∷ 257 ∷ 256 ∷ 255 ∷ 254 ∷ 234 ∷ 233 ∷ 213 ∷ 212 ∷ 192 ∷ 191 ∷ 190 ∷ 189 ∷ 211 ∷ 210 ∷ 232 ∷ 231 ∷ 253 ∷ 252 ∷ []
unfolding opened
all_cells = refl

-- ---- remainder modules

-- the path of version 2 ends with the seven modules that no codeword reaches
pub remainder_cells : column_row 25 (drop 352 (path 2)) ≡ 0 ∷ 13 ∷ 1 ∷ 14 ∷ 0 ∷ 14 ∷ 1 ∷ 15 ∷ 0 ∷ 15 ∷ 1 ∷ 16 ∷ 0 ∷ 16 ∷ []
unfolding opened column_row
remainder_cells = refl

-- columns 0 and 1, rows 9 to 16
pub corner : List ℕ → List (List ℕ)
corner g = from 9 8 (λ y. from 0 2 (λ x. get_or g (25 * y + x) 0))

-- all codewords FF: what no codeword reaches is light
pub remainder_light : corner (content 2 (replicate 44 255))
    ≡ (1 ∷ 1 ∷ [])
    ∷ (1 ∷ 1 ∷ [])
    ∷ (1 ∷ 1 ∷ [])
    ∷ (1 ∷ 1 ∷ [])
    ∷ (0 ∷ 1 ∷ [])
    ∷ (0 ∷ 0 ∷ [])
    ∷ (0 ∷ 0 ∷ [])
    ∷ (0 ∷ 0 ∷ [])
    ∷ []
unfolding opened corner
remainder_light = refl

-- and masked as the rest is, here by mask 0
pub remainder_masked : corner (grid 2 0 0 (content 2 (replicate 44 255)))
    ≡ (1 ∷ 0 ∷ [])
    ∷ (0 ∷ 1 ∷ [])
    ∷ (1 ∷ 0 ∷ [])
    ∷ (0 ∷ 1 ∷ [])
    ∷ (0 ∷ 0 ∷ [])
    ∷ (1 ∷ 0 ∷ [])
    ∷ (0 ∷ 1 ∷ [])
    ∷ (1 ∷ 0 ∷ [])
    ∷ []
unfolding opened corner
remainder_masked = refl
