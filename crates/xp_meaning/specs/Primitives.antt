-- What the meaning of trees rests on: bodies, text forms, and the sizing of values.
use Rattle.std.specs.Prelude.{ℕ, List, Bool}
use Rattle.xp_base.specs.declared.numbers.BodyNo.{BodyNo}
use Rattle.xp_value.specs.declared.value.Value.{Value}
use Rattle.xp_value.specs.Representation.{Shape}
use Rattle.xp_tree.specs.declared.parts.Modifier.{Modifier}
use Rattle.xp_meaning.specs.Truth.{Outcome}

pub record Primitives : Type 0 where
  -- what a body gives of its arguments
  pub body : BodyNo → List Value → Outcome
  -- the value whose text this is, in that representation
  pub read : Shape → List ℕ → Outcome
  -- the text of a value that isn't null
  pub write : Value → List ℕ
  -- a value that is neither null nor an array, brought to a modifier; whether a longer text is cut
  pub size : Modifier → Bool → Value → Outcome
