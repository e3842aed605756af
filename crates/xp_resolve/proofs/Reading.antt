-- Constants that texts are.
use Rattle.std.proofs.Common.{◌≡◌, ℕ, ◌/◌, List, true, false, refl, ap, ◌∙◌, slice_get, Some, Result, Ok, Err}
use Rattle.std.specs.Fmt.{decimal}
use Rattle.std.proofs.Math.Nat.{div-one}
use Rattle.std.proofs.lemmas.List.{append-nil}
use Rattle.xp_base.specs.OrMemory.{OrMemory}
use Rattle.xp_base.specs.declared.codes.EvalError.{EvalError}
use Rattle.xp_base.specs.declared.decimal.Dec.{Dec}
use Rattle.xp_base.specs.declared.numbers.TypeNo.{TypeNo}
use Rattle.xp_value.specs.declared.value.Value.{Value}
use Rattle.xp_numeric.specs.Texts.{text}
use Rattle.xp_catalog.specs.declared.header.HeaderColumn.{HeaderColumn}
use Rattle.xp_catalog.specs.Contents.{Contents}
use Rattle.xp_catalog.specs.Headers.{column_named}
use Rattle.xp_catalog.specs.Lookups.{type_named}
use Rattle.xp_types.specs.Readers.{is_known}
use Rattle.xp_types.specs.Within.{IsType}
use Rattle.xp_tree.specs.Term.{Term, type_of}
use Rattle.xp_io.specs.Forms.{input}
use Rattle.xp_io.specs.Representations.{shape_of}
use Rattle.xp_named.specs.declared.refusal.Refusal.{Refusal}
use Rattle.xp_coerce.specs.Asked.{IsSource}
use Rattle.xp_coerce.specs.Coerced.{bad_literal, constant_of, read_text}
use Rattle.xp_coerce.specs.Types.{node_type}
use Rattle.xp_resolve.specs.declared.made.Made.{Made}
use Rattle.xp_resolve.specs.declared.made.Progress.{Progress}
use Rattle.xp_resolve.specs.Literals as literals
use Rattle.xp_resolve.specs.Made.{is_memory}
use Rattle.xp_resolve.specs.Scene.{Scene}

-- a tree whose type is one that values may have
pub known_source : (c : Contents) (type : TypeNo) (t : Term) → IsType c type → is_known type ≡ true → type_of t ≡ node_type c type → IsSource c t
known_source c type t within known is = record {
  type = rw is (record { within = within; same = refl });
  literal = λ unknown. let never : is_known type ≡ false = rw is at unknown in cc (never, known);
}

constant_source : (c : Contents) (type : TypeNo) (v : Value) → IsType c type → IsSource c (constant_of c type v)
constant_source c type v within = record { type = record { within = within; same = refl }; literal = λ unknown. refl }

-- a constant that is read
pub read_source : (c : Contents) (type : TypeNo) (text : List ℕ) (t : Term) → IsType c type → read_text c type text ≡ Ok t → IsSource c t
read_source c type text t within is = go (input (shape_of c type) text) refl
  where
    go : (said : Result Value EvalError) → input (shape_of c type) text ≡ said → IsSource c t
    go (Ok v) at = let own : constant_of c type v ≡ t = (let shown : Ok (constant_of c type v) ≡ Ok t = rw at at is in cc shown) in rw (← own) (constant_source c type v within)
    go (Err e) at = let never : Err (bad_literal e) ≡ Ok t = rw at at is in absurd (cc never)

-- the type of that name is there
pub constant_at : (scene : Scene) (at : ℕ) (name text : List ℕ) (progress : Progress) (type : TypeNo) (r : Result Made Refusal)
    → type_named scene.c name ≡ Some type → OrMemory is_memory (literals.constant scene at type text progress) r
    → OrMemory is_memory (literals.constant_named scene at name text progress) r
constant_at scene at name text progress type r is next = rw is next

-- the column of that name is there
pub column_is : (scene : Scene) (at : ℕ) (name : List ℕ) (progress : Progress) (place : ℕ) (found : HeaderColumn) (r : Result Made Refusal)
    → column_named scene.columns name ≡ Some place → slice_get scene.columns place ≡ Some found
    → OrMemory is_memory (literals.column_of scene at name progress place found.ty) r
    → OrMemory is_memory (literals.named_column scene at name progress) r
column_is scene at name progress place found r is there e = rw (is, there) e

-- the text of a whole number is its digits
pub whole_text : (x : Dec) → x.scale ≡ 0 → x.neg ≡ false → text x ≡ decimal x.coef
whole_text x whole positive = rw (whole, positive) (append-nil (decimal (x.coef / 1)) ∙ ap decimal (div-one x.coef))
