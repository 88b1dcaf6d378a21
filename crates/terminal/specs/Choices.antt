-- What the options of the command line ask for.
-- Assumes nothing.
use Rattle.std.specs.Prelude.{ℕ, Bool, true, Option, None, option_map, cond, List, [], ◌∷◌}
use Rattle.standard.specs.Numbers.{same}
use Rattle.types.specs.declared.QrCodeEcc.{QrCodeEcc}
use Rattle.types.specs.Numbers.{level_of}
use Rattle.terminal.specs.Words.{versions_named, level_named, mask_named, switch_named}
use Rattle.terminal.specs.declared.options.Options.{Options}

-- level M, versions 1 to 40, automatic mask, boost
abbrev pub defaults : Options
defaults = record { level = 1; first = 1; last = 40; mask = 8; boost = true }

abbrev pub with_level : Options → QrCodeEcc → Options
with_level o l = record o { level = level_of l }

abbrev pub with_versions : Options → ℕ × ℕ → Options
with_versions o v = record o { first = v.0; last = v.1 }

abbrev pub with_mask : Options → ℕ → Options
with_mask o n = record o { mask = n }

abbrev pub with_boost : Options → Bool → Options
with_boost o b = record o { boost = b }

-- the names of the options that take a value
abbrev pub level_name : List ℕ
level_name = 45 ∷ 45 ∷ 108 ∷ 101 ∷ 118 ∷ 101 ∷ 108 ∷ []

abbrev pub versions_name : List ℕ
versions_name = 45 ∷ 45 ∷ 118 ∷ 101 ∷ 114 ∷ 115 ∷ 105 ∷ 111 ∷ 110 ∷ 115 ∷ []

abbrev pub mask_name : List ℕ
mask_name = 45 ∷ 45 ∷ 109 ∷ 97 ∷ 115 ∷ 107 ∷ []

abbrev pub boost_name : List ℕ
boost_name = 45 ∷ 45 ∷ 98 ∷ 111 ∷ 111 ∷ 115 ∷ 116 ∷ []

-- the options after one more of them and its value; none where these are not understood
abbrev pub chosen : Options → List ℕ → List ℕ → Option Options
chosen o name value =
    cond (same name level_name) (option_map (with_level o) (level_named value))
    (cond (same name versions_name) (option_map (with_versions o) (versions_named value))
    (cond (same name mask_name) (option_map (with_mask o) (mask_named value))
    (cond (same name boost_name) (option_map (with_boost o) (switch_named value)) None)))
