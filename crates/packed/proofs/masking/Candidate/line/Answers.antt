-- `packed::masking::Candidate::line` meets its contract.
-- Assumes nothing.
use native.Mathlib.Omega.{arith}
use Rattle.packed.specs.Ways.{line_packed, line_kept, held_fits}
use Rattle.packed.proofs.masking.Candidate.line.Goals as goal

pub returns-then-k-eq-FORMAT_LINE : goal.returns-then-k-eq-FORMAT_LINE
returns-then-k-eq-FORMAT_LINE g c =
    let number = g.L.Strip.number in let a = c.args.self.now in let f = a.fits in
    line_packed a.side g.L.Strip.room a.msk c.args.k a.grid.now c.requires.1 f.0 f.1 f.2 f.3 c.requires.0 c.args.way
    (number c.pack-color.result) (number c.pack-free.result) (number c.spread-inverted.result) _ (cc) (cc) (cc) (cc)

pub load-requires : goal.load-requires
load-requires g c =
    let a = c.args.self.now in let f = a.fits in
    let h = held_fits a.side g.L.Strip.room a.msk c.args.k a.grid.now c.requires.1 f.0 f.1 f.2 f.3 c.requires.0 _ _ _ a.held_rows a.held_columns c.args.way c.words-words.ensures in
    (omega arith, h.1)

pub load-requires-2 : goal.load-requires-2
load-requires-2 g c =
    let a = c.args.self.now in let f = a.fits in
    let h = held_fits a.side g.L.Strip.room a.msk c.args.k a.grid.now c.requires.1 f.0 f.1 f.2 f.3 c.requires.0 _ _ _ a.held_rows a.held_columns c.args.way c.words-words.ensures in
    (omega arith, h.2)

pub returns : goal.returns
returns g c =
    let number = g.L.Strip.number in let a = c.args.self.now in let f = a.fits in
    line_kept a.side g.L.Strip.room a.msk c.args.k a.grid.now c.requires.1 f.0 f.1 f.2 f.3 c.requires.0 a.rows.now a.columns.now a.held_rows a.held_columns c.args.way
    (number c.patch-color.result) (number c.patch-free.result) (number c.spread-inverted.result) _ c.digit_of.result c.digit_of-2.result (number c.load.result) (number c.load-2.result)
    c.if-k-eq-FORMAT_LINE.false (cc) (cc) c.patch-free.ensures.1 (cc) (cc) (cc) (cc) (cc) (cc)
