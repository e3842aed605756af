use Rattle.std.proofs.Common.{◌∷◌, [], ◌++◌, ◌∙◌, ap, replicate, append_assoc}
use Rattle.std.proofs.lemmas.List.{replicate-append-replicate}
use Rattle.std.proofs.lemmas.List.Elements.{All-append, All-cons, All-nil}
use Rattle.xp_types.specs.Within.{IsType}
use Rattle.xp_func.proofs.expanded.with_copies.Goals as goal

pub loop-copy-preserved : goal.loop-copy-preserved
loop-copy-preserved c =
    let types = c.args.types.now in
    let ty = c.args.ty in
    let copies = replicate c.loop-copy._copy ty in
    record {
      list = c.in_ok-push.ensures.ok ∙ ap (λ list. list ++ ty ∷ []) c.loop-copy.invariant.list ∙ append_assoc types copies (ty ∷ []) ∙ ap (λ more. types ++ more) (replicate-append-replicate c.loop-copy._copy 1 ty);
      known = rw c.in_ok-push.ensures.ok (All-append (IsType c.args.c.now) c.loop-copy.list (ty ∷ []) c.loop-copy.invariant.known (All-cons (IsType c.args.c.now) ty [] c.requires.ty (All-nil (IsType c.args.c.now))));
    }
