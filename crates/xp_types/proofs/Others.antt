-- Functions and operators are nothing to types.
use Rattle.std.proofs.Common.{◌≡◌, List, [], ◌∷◌, cond, refl, ap}
use Rattle.std.specs.Option.{option_map_or}
use Rattle.xp_base.specs.declared.numbers.TypeNo.{TypeNo}
use Rattle.xp_catalog.specs.declared.rows.FuncRow.{FuncRow}
use Rattle.xp_catalog.specs.declared.rows.OperRow.{OperRow}
use Rattle.xp_catalog.specs.Contents.{Contents}
use Rattle.xp_types.specs.Common.{are_of, candidate_of, common, common_of, considered, converted, selected, shared_type}
use Rattle.xp_types.specs.Readers.{category, preferred}
use Rattle.xp_types.specs.declared.common_type.CommonType.TheVariants.{One, Mixed}

-- a catalogue with other functions and operators
abbrev pub with_calls : Contents → List FuncRow → List OperRow → Contents
with_calls c funcs opers = record c { funcs = funcs; opers = opers }

candidate-same : (c : Contents) (funcs : List FuncRow) (opers : List OperRow) (candidate : TypeNo) (others : List TypeNo) → candidate_of (with_calls c funcs opers) candidate others ≡ candidate_of c candidate others
candidate-same c funcs opers candidate [] = refl
candidate-same c funcs opers candidate (other ∷ others) = ap (cond (preferred c candidate) candidate) (candidate-same c funcs opers (selected c candidate other) others)

common_of-same : (c : Contents) (funcs : List FuncRow) (opers : List OperRow) (inputs types : List TypeNo) → common_of (with_calls c funcs opers) inputs types ≡ common_of c inputs types
common_of-same c funcs opers inputs [] = refl
common_of-same c funcs opers inputs (first ∷ others) = ap (λ type. cond (are_of c (category c first) others) (converted c inputs type) Mixed) (candidate-same c funcs opers first others)

pub common-same : (c : Contents) (funcs : List FuncRow) (opers : List OperRow) (inputs : List TypeNo) → common (with_calls c funcs opers) inputs ≡ common c inputs
common-same c funcs opers inputs = ap (option_map_or (λ type. One type) (shared_type inputs)) (common_of-same c funcs opers inputs (considered c inputs))
