-- Checks that are truth values, with one more.
use Rattle.std.proofs.Common.{◌≡◌, List, [], ◌∷◌, ◌++◌}
use Rattle.std.proofs.lemmas.List.Elements.{All-append, All-cons, All-nil}
use Rattle.xp_tree.specs.declared.checks.DomainCheck.{DomainCheck}
use Rattle.xp_tree.specs.Term.{type_of}
use Rattle.xp_tree.specs.Typed.{IsBool}
use Rattle.xp_coerce.specs.Asked.{AreTruths}

pub truths_more : (checks : List DomainCheck) (entry : DomainCheck) (now : List DomainCheck) → AreTruths checks → IsBool (type_of entry.check) → now ≡ checks ++ entry ∷ [] → AreTruths now
truths_more checks entry now all is e =
    let P = λ (one : DomainCheck). IsBool (type_of one.check) in
    rw e (All-append P checks (entry ∷ []) all (All-cons P entry [] is (All-nil P)))
