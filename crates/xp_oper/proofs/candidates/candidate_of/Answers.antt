use Rattle.std.proofs.Common.{◌<◌, [], ◌∷◌, Option, Some, None, IfSome, ap, length}
use Rattle.std.proofs.lemmas.List.Elements.{All-cons, All-nil}
use Rattle.xp_base.specs.declared.numbers.TypeNo.{TypeNo}
use Rattle.xp_catalog.specs.Contents.{Contents}
use Rattle.xp_catalog.specs.Lookups.{operands}
use Rattle.xp_types.specs.Within.{AreTypes, IsType}
use Rattle.xp_oper.proofs.candidates.candidate_of.Goals as goal

AreTypes-operands : (c : Contents) (left : Option TypeNo) (right : TypeNo) → IfSome left (λ type. type.0 < length c.types) → IsType c right → AreTypes c (operands left right)
AreTypes-operands c None right known own = All-cons (IsType c) right [] own (All-nil (IsType c))
AreTypes-operands c (Some left) right known own = All-cons (IsType c) left (right ∷ []) known (All-cons (IsType c) right [] own (All-nil (IsType c)))

pub returns-clause-known : goal.returns-clause-known
returns-clause-known c = record {
  arity = ap length c.in_ok-operands.ensures;
  declared = rw c.in_ok-operands.ensures (AreTypes-operands c.args.c.now c.args.oper.now.left c.args.oper.now.right c.requires.left c.requires.right);
  result_type = c.func_row.ensures.known.result;
}
