-- Functions and operators are nothing to what polymorphic types accept and stand for.
use Rattle.std.proofs.Common.{◌≡◌, List, map, not, cond, ◌&&◌, ◌||◌, None, zip, ap}
use Rattle.std.specs.Prelude.{codes, is_some, unwrap_or}
use Rattle.std.specs.List.{list_all}
use Rattle.xp_base.specs.declared.numbers.TypeNo.{TypeNo}
use Rattle.xp_catalog.specs.declared.rows.FuncRow.{FuncRow}
use Rattle.xp_catalog.specs.declared.rows.OperRow.{OperRow}
use Rattle.xp_catalog.specs.Contents.{Contents}
use Rattle.xp_catalog.specs.Lookups.{type_named}
use Rattle.xp_types.specs.Readers.{unknown}
use Rattle.xp_types.proofs.Others.{common-same, with_calls}
use Rattle.xp_poly.specs.Members.{given, range_given}
use Rattle.xp_poly.specs.Acceptance.{accepts, accepts_first, accepts_plain, compatible_type, counted, fit_compatible, one_of, uses}
use Rattle.xp_poly.specs.Bound.{bonds, bound, concrete, concrete_at, concrete_types, first_bond, is_indeterminate}
use Rattle.xp_catalog.specs.declared.rows.Family.TheVariants.{First, Second}
use Rattle.xp_poly.specs.declared.members.KnownInput.{KnownInput}
use Rattle.xp_poly.specs.declared.bound.Binding.TheVariants.{Concrete, Indeterminate}

compatible-same : (c : Contents) (funcs : List FuncRow) (opers : List OperRow) (inputs : List KnownInput) → compatible_type (with_calls c funcs opers) inputs ≡ compatible_type c inputs
compatible-same c funcs opers inputs = ap (λ type. cond (is_some (type_named c (codes "text"))) (one_of type) None) (common-same c funcs opers (counted c inputs))

pub accepts-same : (c : Contents) (funcs : List FuncRow) (opers : List OperRow) (declared inputs : List TypeNo) → accepts (with_calls c funcs opers) declared inputs ≡ accepts c declared inputs
accepts-same c funcs opers declared inputs =
    let pairs = zip declared inputs in
    let second = given c Second pairs in
    ap (λ type. list_all (accepts_plain c) pairs && accepts_first c (given c First pairs) && (not (uses c Second declared) || fit_compatible c declared second type)) (compatible-same c funcs opers second)

bonds-same : (c : Contents) (funcs : List FuncRow) (opers : List OperRow) (pairs : List (TypeNo × TypeNo)) → bonds (with_calls c funcs opers) pairs ≡ bonds c pairs
bonds-same c funcs opers pairs =
    let second = given c Second pairs in
    ap (λ type. record { first = first_bond c (given c First pairs); second = record { element = unwrap_or type unknown; range = range_given c second } }) (compatible-same c funcs opers second)

pub bound-same : (c : Contents) (funcs : List FuncRow) (opers : List OperRow) (declared : List TypeNo) (result : TypeNo) (inputs : List TypeNo) → bound (with_calls c funcs opers) declared result inputs ≡ bound c declared result inputs
bound-same c funcs opers declared result inputs =
    ap (λ both. cond (is_indeterminate c declared inputs) Indeterminate (Concrete (concrete c both result unknown))) (bonds-same c funcs opers (zip declared inputs))

pub concrete_types-same : (c : Contents) (funcs : List FuncRow) (opers : List OperRow) (pairs : List (TypeNo × TypeNo)) → concrete_types (with_calls c funcs opers) pairs ≡ concrete_types c pairs
concrete_types-same c funcs opers pairs = ap (λ both. map (concrete_at c both) pairs) (bonds-same c funcs opers pairs)
