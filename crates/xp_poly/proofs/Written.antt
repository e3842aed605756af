-- What is written where the types are told.
use Rattle.std.proofs.Common.{◌≡◌, List, false, cond, map, refl, sym, ◌∙◌, ap, zip}
use Rattle.xp_base.specs.declared.numbers.TypeNo.{TypeNo}
use Rattle.xp_catalog.specs.Contents.{Contents}
use Rattle.xp_poly.specs.Members.{given}
use Rattle.xp_poly.specs.Bound.{concrete_at, concrete_types, first_bond, has_no_element, is_indeterminate, second_bond}
use Rattle.xp_poly.specs.declared.bound.Bond.{Bond}
use Rattle.xp_poly.specs.declared.members.KnownInput.{KnownInput}
use Rattle.xp_catalog.specs.declared.rows.Family.TheVariants.{First, Second}

pub types_written : (c : Contents) (declared inputs out new : List TypeNo) (first second : List KnownInput) (one two : Bond)
    → first ≡ given c First (zip declared inputs) → second ≡ given c Second (zip declared inputs)
    → one ≡ first_bond c first → two ≡ second_bond c second → has_no_element c declared first ≡ false
    → new ≡ map (concrete_at c (record { first = one; second = two })) (zip declared inputs)
    → new ≡ cond (is_indeterminate c declared inputs) out (concrete_types c (zip declared inputs))
types_written c declared inputs out new first second one two is_first is_second is_one is_two told is =
    let known : is_indeterminate c declared inputs ≡ false = sym (ap (has_no_element c declared) is_first) ∙ told in
    rw (is, known, is_one, is_two, is_first, is_second) refl
