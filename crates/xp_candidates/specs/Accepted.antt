-- The candidates that accept the inputs (manual 10.2 step 3.a and 3.f, 10.3 step 4.a and 4.f).
use Rattle.std.specs.Prelude.{◌≡◌, ℕ, List, Bool, true, false, ◌&&◌, ◌||◌, not, map, length, Option, Some, None}
use Rattle.xp_base.specs.declared.numbers.TypeNo.{TypeNo}
use Rattle.xp_catalog.specs.Contents.{Contents}
use Rattle.xp_catalog.specs.Rules.{last_of}
use Rattle.xp_catalog.specs.declared.rows.PseudoType.{PseudoType}
use Rattle.xp_catalog.specs.declared.rows.PseudoType.TheVariants.{Any}
use Rattle.xp_types.specs.Within.{AreTypes, IsType}
use Rattle.xp_types.specs.Readers.{base, is_array, is_known, pseudo_type}
use Rattle.xp_poly.specs.Acceptance.{accepts}
use Rattle.xp_candidates.specs.Known.{taken_as}
use Rattle.xp_candidates.specs.declared.candidate.Candidate.{Candidate}

-- a candidate with a type for each input, all of them types of the catalogue
pub record IsCandidate (c : Contents) (inputs : ℕ) (candidate : Candidate) : Type 0 where
  pub arity : length candidate.declared ≡ inputs
  pub declared : AreTypes c candidate.declared
  pub result_type : IsType c candidate.result_type

-- a known type whose base type is an array type
abbrev pub is_array_based : Contents → TypeNo → Bool
is_array_based c type = is_known type && is_array c (base c type)

abbrev pub is_any : Option PseudoType → Bool
is_any (Some Any) = true
is_any _ = false

-- behind the word VARIADIC an argument at `any` is an array
abbrev pub accepts_variadic_any : Contents → Option TypeNo → Option TypeNo → Bool
accepts_variadic_any c (Some declared) (Some input) = not (is_any (pseudo_type c declared)) || is_array_based c input
accepts_variadic_any c _ _ = true

-- 3.a: the inputs have a path to the candidate's types
abbrev pub takes : Contents → Bool → List TypeNo → Candidate → Bool
takes c variadic inputs candidate = accepts c candidate.declared inputs && (not variadic || accepts_variadic_any c (last_of candidate.declared) (last_of inputs))

-- 3.f: the candidate accepts the inputs with the unknown ones taken as the type of the known ones
abbrev pub takes_as : Contents → Option TypeNo → List TypeNo → Candidate → Bool
takes_as c None inputs candidate = false
takes_as c (Some type) inputs candidate = accepts c candidate.declared (map (taken_as type) inputs)
