-- `segments::make::append_payload` meets its contract: by cases on the kind.
-- Assumes nothing.
use Rattle.segments.specs.Appends.{of_kind, digits_of, alphanumerics_of, digits_free, pairs_free, bytes_free, digits_done, pairs_done, bytes_done, eci_number, eci_free, eci_done}
use Rattle.segments.proofs.make.append_payload.Goals as goal

pub make_numeric-requires : goal.make_numeric-requires
make_numeric-requires c =
    let s = c.in-Text in
    let e = of_kind c.args.seg s.chars s.is c.in-Numeric.is in (
      digits_of c.args.seg s.chars e c.requires.0,
      digits_free c.args.seg s.chars c.args.bb.now c.args.at c.requires.1 e,
    )

pub make_alphanumeric-requires : goal.make_alphanumeric-requires
make_alphanumeric-requires c =
    let s = c.in-Text in
    let e = of_kind c.args.seg s.chars s.is c.in-Alphanumeric.is in (
      alphanumerics_of c.args.seg s.chars e c.requires.0,
      pairs_free c.args.seg s.chars c.args.bb.now c.args.at c.requires.1 e,
    )

pub make_bytes-requires : goal.make_bytes-requires
make_bytes-requires c =
    let s = c.in-Text in
    let e = of_kind c.args.seg s.chars s.is c.in-Byte.is in bytes_free c.args.seg s.chars c.args.bb.now c.args.at c.requires.1 e

pub make_eci-requires : goal.make_eci-requires
make_eci-requires c =
    let s = c.in-Eci in (
      eci_number c.args.seg s.assignval s.is c.requires.0,
      eci_free c.args.seg s.assignval s.is c.args.bb.now c.args.at c.requires.1,
    )

pub returns-in-Numeric : goal.returns-in-Numeric
returns-in-Numeric c =
    let s = c.in-Text in
    let e = of_kind c.args.seg s.chars s.is c.in-Numeric.is in
    digits_done c.args.seg s.chars c.args.bb.now c.make_numeric.new.bb c.args.at c.make_numeric.result e c.make_numeric.ensures

pub returns-in-Alphanumeric : goal.returns-in-Alphanumeric
returns-in-Alphanumeric c =
    let s = c.in-Text in
    let e = of_kind c.args.seg s.chars s.is c.in-Alphanumeric.is in
    pairs_done c.args.seg s.chars c.args.bb.now c.make_alphanumeric.new.bb c.args.at c.make_alphanumeric.result e c.make_alphanumeric.ensures

pub returns-in-Byte : goal.returns-in-Byte
returns-in-Byte c =
    let s = c.in-Text in
    let e = of_kind c.args.seg s.chars s.is c.in-Byte.is in
    bytes_done c.args.seg s.chars c.args.bb.now c.make_bytes.new.bb c.args.at c.make_bytes.result e c.make_bytes.ensures

pub returns-in-Eci : goal.returns-in-Eci
returns-in-Eci c = eci_done c.args.seg c.in-Eci.assignval c.in-Eci.is c.args.bb.now c.make_eci.new.bb c.args.at c.make_eci.result c.make_eci.ensures
