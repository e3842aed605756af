-- What is made of a statement: trees, whose nodes are counted together, and the overloads that are chosen (the limit is this project's own).
use Rattle.std.specs.Prelude.{ℕ, ◌+◌, List, Bool, true, false, Result, Ok, Err, cond, nat_le}
use Rattle.xp_base.specs.FromLeft.{and_then}
use Rattle.xp_base.specs.declared.codes.Code.{Code}
use Rattle.xp_base.specs.declared.codes.Code.TheVariants.{TooBig}
use Rattle.xp_base.specs.declared.limits.TheConstants.{NODE_LIMIT}
use Rattle.xp_named.specs.declared.refusal.Refusal.{Refusal}
use Rattle.xp_named.specs.declared.refusal.Refusal.TheVariants.{At, Memory}
use Rattle.xp_tree.specs.Term.{Term, size}
use Rattle.xp_resolve.specs.declared.made.Made.{Made}
use Rattle.xp_resolve.specs.declared.typed.Use.{Use}
use Rattle.xp_resolve.specs.Scene.{Scene}

abbrev pub refused : {T : Type 0} → Code → ℕ → Result T Refusal
refused code at = Err (At code at)

-- too many nodes are refused at the statement's first token
abbrev pub counted : Scene → ℕ → Result ℕ Refusal
counted scene nodes = cond (nat_le nodes NODE_LIMIT) (Ok nodes) (refused TooBig scene.start)

-- a tree that is made, beside trees of so many nodes
abbrev pub finished : Scene → ℕ → ℕ → List Use → Term → Result Made Refusal
finished scene at before uses t =
    and_then (counted scene (before + size t)) (λ nodes. Ok (record { part = record { tree = t; at = at }; progress = record { nodes = nodes; uses = uses } }))

-- want of memory, among the refusals
abbrev pub is_memory : Refusal → Bool
is_memory Memory = true
is_memory _ = false
