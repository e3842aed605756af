-- Whether the types to which a candidate's polymorphic types are bound are there (manual 38.2.5, 10.3 step 4.a).
use Rattle.std.specs.Prelude.{List, Bool, true, false, ◌==◌, ◌&&◌, ◌||◌, not, is_some, zip, Option, Some}
use Rattle.std.specs.List.{list_all}
use Rattle.std.specs.Option.{option_map_or}
use Rattle.xp_base.specs.declared.numbers.TypeNo.{TypeNo}
use Rattle.xp_catalog.specs.Contents.{Contents}
use Rattle.xp_catalog.specs.Rules.{last_of}
use Rattle.xp_catalog.specs.declared.rows.PseudoType.{PseudoType}
use Rattle.xp_catalog.specs.declared.rows.PseudoType.TheVariants.{AnyElement, AnyCompatible}
use Rattle.xp_types.specs.Readers.{array_of, is_known, pseudo_type}
use Rattle.xp_poly.specs.Bound.{bound, concrete_types}
use Rattle.xp_poly.specs.declared.bound.Binding.{Binding}
use Rattle.xp_poly.specs.declared.bound.Binding.TheVariants.{Concrete, Indeterminate}
use Rattle.xp_candidates.specs.declared.candidate.Candidate.{Candidate}

-- the element types that stand for anyarray and anycompatiblearray
abbrev pub is_element : Option PseudoType → Bool
is_element (Some AnyElement) = true
is_element (Some AnyCompatible) = true
is_element _ = false

-- its last arguments stand for those of a polymorphic array
abbrev pub is_of_elements : Contents → Candidate → Bool
is_of_elements c candidate = not (candidate.expanded == 0) && option_map_or (λ type. is_element (pseudo_type c type)) (last_of candidate.declared) false

-- the type that the expanded arguments are bound to has an array type, where these come from a polymorphic array
abbrev pub has_array : Contents → Candidate → List TypeNo → Bool
has_array c candidate types = not (is_of_elements c candidate) || option_map_or (λ type. is_some (array_of c type)) (last_of types) false

-- a type that isn't there is bound as `unknown`; without known inputs nothing is bound
abbrev pub is_there : Contents → Candidate → Binding → List TypeNo → Bool
is_there c candidate (Concrete result_type) types = is_known result_type && list_all is_known types && has_array c candidate types
is_there c candidate Indeterminate types = true

abbrev pub binds : Contents → List TypeNo → Candidate → Bool
binds c inputs candidate = is_there c candidate (bound c candidate.declared candidate.result_type inputs) (concrete_types c (zip candidate.declared inputs))
