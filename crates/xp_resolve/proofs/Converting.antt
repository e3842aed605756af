-- Arguments that are converted one after the other.
use Rattle.std.proofs.Common.{◌≡◌, ℕ, suc, ◌+◌, ◌<◌, List, [], ◌∷◌, ◌++◌, length, map, drop, get_or, refl, arith, codes, Some, Result, Ok, Err}
use Rattle.std.specs.List.{All}
use Rattle.std.proofs.lemmas.List.{append_assoc, drop_more, map-append}
use Rattle.xp_base.specs.OrMemory.{OrMemory}
use Rattle.xp_base.specs.declared.numbers.TypeNo.{TypeNo}
use Rattle.xp_catalog.specs.declared.rows.Context.{Context}
use Rattle.xp_catalog.specs.Contents.{Contents}
use Rattle.xp_catalog.specs.Lookups.{type_named}
use Rattle.xp_types.specs.Readers.{array_of}
use Rattle.xp_tree.specs.Term.{Term, type_of}
use Rattle.xp_named.specs.declared.named.NamedType.{NamedType}
use Rattle.xp_named.specs.declared.refusal.Refusal.{Refusal}
use Rattle.xp_coerce.specs.Coerced.{coerced}
use Rattle.xp_coerce.specs.Types.{node_type}
use Rattle.xp_resolve.specs.declared.conversions.Converted.{Converted}
use Rattle.xp_resolve.specs.declared.conversions.ConvertedAll.{ConvertedAll}
use Rattle.xp_resolve.specs.declared.made.Part.{Part}
use Rattle.xp_resolve.specs.declared.targets.Target.{Target}
use Rattle.xp_resolve.specs.declared.targets.Target.TheVariants as target
use Rattle.xp_resolve.specs.Conversions.{argument, arguments, converted, in_place_of, with_last}
use Rattle.xp_resolve.specs.Made.{is_memory}
use Rattle.xp_resolve.specs.Scene.{Scene}
use Rattle.xp_resolve.specs.inner.Sources.{target_type}
use Rattle.xp_resolve.proofs.Steps.{same, then_err}

pub converted_is : (scene : Scene) (at nodes : ℕ) (part : Part) (named : NamedType) (context : Context) (tree : Term) (r : Result Converted Refusal) → coerced scene.c scene.checks part.tree named.ty named.modifier context ≡ Ok tree → r ≡ in_place_of scene nodes part.tree tree → OrMemory is_memory (converted scene at nodes part named context) r
converted_is scene at nodes part named context tree r is e = rw is (same (in_place_of scene nodes part.tree tree) r e)

pub texts_typed : (c : Contents) (text texts : TypeNo) → type_named c (codes "text") ≡ Some text → array_of c text ≡ Some texts → target_type c target.ElementsWritten ≡ node_type c texts
texts_typed c text texts named over = rw (named, over) refl

-- ---- what holds of the first, and of those behind it

pub first_is : {A : Type 0} (P : A → Type 0) (list : List A) (x : A) (rest : List A) → All P list → list ≡ x ∷ rest → P x
first_is P list x rest all e = let own : All P (x ∷ rest) = rw e at all in own 0 x (omega arith)

pub rest_are : {A : Type 0} (P : A → Type 0) (list : List A) (x : A) (rest : List A) → All P list → list ≡ x ∷ rest → All P rest
rest_are P list x rest all e = let own : All P (x ∷ rest) = rw e at all in λ k d h. own (suc k) d (omega arith)

-- ---- the next argument

pub arguments_more : (scene : Scene) (at : ℕ) (before : ConvertedAll) (parts rest : List Part) (targets : List Target) (part : Part) (i : ℕ) (d : Target) (one : Converted)
    → parts ≡ part ∷ rest → i < length targets → OrMemory is_memory (argument scene at before.nodes part (get_or targets i d)) (Ok one)
    → arguments scene at (with_last before one) rest (drop (i + 1) targets) ≡ arguments scene at before parts (drop i targets)
arguments_more scene at before parts rest targets part i d one e h is = rw (e, drop_more targets i d h, is) refl

pub arguments_fault : (scene : Scene) (at : ℕ) (before : ConvertedAll) (parts rest : List Part) (targets : List Target) (part : Part) (i : ℕ) (d : Target) (fault : Refusal)
    → parts ≡ part ∷ rest → i < length targets → OrMemory is_memory (argument scene at before.nodes part (get_or targets i d)) (Err fault)
    → OrMemory is_memory (arguments scene at before parts (drop i targets)) (Err fault)
arguments_fault scene at before parts rest targets part i d fault e h is =
    rw (e, drop_more targets i d h) (then_err (argument scene at before.nodes part (get_or targets i d)) (λ one. arguments scene at (with_last before one) rest (drop (i + 1) targets)) fault is)

pub arguments_out : (scene : Scene) (at : ℕ) (before : ConvertedAll) (parts : List Part) → arguments scene at before parts [] ≡ Ok before
arguments_out scene at before [] = refl
arguments_out scene at before (part ∷ parts) = refl

pub typed_more : (c : Contents) (trees : List Term) (targets : List Target) (t : Term) (i : ℕ) (d : Target) → i < length targets → type_of t ≡ target_type c (get_or targets i d)
    → map type_of (trees ++ t ∷ []) ++ map (target_type c) (drop (i + 1) targets) ≡ map type_of trees ++ map (target_type c) (drop i targets)
typed_more c trees targets t i d h is = rw (drop_more targets i d h, map-append type_of trees (t ∷ []), append_assoc, is) refl
