-- Arms of UNION ALL that are given their lists one after the other.
use Rattle.std.proofs.Common.{◌≡◌, ℕ, ◌+◌, ◌<◌, ◌≤◌, List, [], ◌∷◌, ◌++◌, append_assoc, append-nil, drop, get_or, length, refl, sym, ◌∙◌, ap, reverse, take}
use Rattle.std.proofs.lemmas.List.{reverse-reverse}
use Rattle.std.proofs.lemmas.List.Elements.{All-cons, All-head, All-nil, All-tail}
use Rattle.xp_base.proofs.Lists.{drop_none, drop_one}
use Rattle.xp_catalog.specs.Contents.{Contents}
use Rattle.xp_grammar.specs.declared.statement.SelectArm.{SelectArm}
use Rattle.xp_resolve.specs.declared.made.Part.{Part}
use Rattle.xp_resolve.specs.inner.Sources.{AreSources}
use Rattle.xp_forms.proofs.Armed.{left_is}
use Rattle.xp_columns.specs.declared.columns.UnionArm.{UnionArm}
use Rattle.xp_columns.specs.inner.Tables.{AreArms, AreLists}
use Rattle.xp_analyse.specs.Lists.{arms_over}

pub arms_next : (before : List UnionArm) (arms : List SelectArm) (left rest : List (List Part)) (i : ℕ) (arm : SelectArm) (items : List Part)
    → i < length arms → arm ≡ get_or arms i arm → left ≡ items ∷ rest
    → (before ++ record { at = arm.at.start; items = items } ∷ []) ++ arms_over (drop (i + 1) arms) rest ≡ before ++ arms_over (drop i arms) left
arms_next before arms left rest i arm items few at e = rw (drop_one arms i arm few at, e) (append_assoc before (record { at = arm.at.start; items = items } ∷ []) (arms_over (drop (i + 1) arms) rest))

none_left : (arms : List SelectArm) → arms_over arms [] ≡ []
none_left [] = refl
none_left (arm ∷ arms) = refl

pub lists_out : (before : List UnionArm) (arms : List SelectArm) (left : List (List Part)) → left ≡ [] → before ≡ before ++ arms_over arms left
lists_out before arms left e = rw (e, none_left arms) (sym (append-nil before))

pub arms_out : (before : List UnionArm) (arms : List SelectArm) (left : List (List Part)) (i : ℕ) → length arms ≤ i → before ≡ before ++ arms_over (drop i arms) left
arms_out before arms left i out = rw (drop_none arms i out) (sym (append-nil before))

-- ---- the first list, and the others

turned : (lists old : List (List Part)) → old ≡ reverse lists → reverse old ≡ lists
turned lists old e = ap reverse e ∙ reverse-reverse lists

pub first_split : (lists old rest : List (List Part)) (items : List Part) → old ≡ reverse lists → old ≡ rest ++ items ∷ [] → items ∷ [] ≡ take 1 lists
first_split lists old rest items e is = let own : lists ≡ items ∷ reverse rest = sym (turned lists old e) ∙ left_is old rest items is in rw own refl

pub others_split : (lists old rest : List (List Part)) (items : List Part) → old ≡ reverse lists → old ≡ rest ++ items ∷ [] → reverse rest ≡ drop 1 lists
others_split lists old rest items e is = let own : lists ≡ items ∷ reverse rest = sym (turned lists old e) ∙ left_is old rest items is in rw own refl

pub none_split : (lists old : List (List Part)) → old ≡ reverse lists → old ≡ [] → lists ≡ []
none_split lists old e is = sym (turned lists old e) ∙ ap reverse is

pub first_sources : (c : Contents) (lists : List (List Part)) → AreLists c lists → AreLists c (take 1 lists)
first_sources c [] all = all
first_sources c (list ∷ lists) all = All-cons (AreSources c) list [] (All-head (AreSources c) list lists all) (All-nil (AreSources c))

pub others_sources : (c : Contents) (lists : List (List Part)) → AreLists c lists → AreLists c (drop 1 lists)
others_sources c [] all = all
others_sources c (list ∷ lists) all = All-tail (AreSources c) list lists all

pub arms_sources : (c : Contents) (arms : List SelectArm) (lists : List (List Part)) → AreLists c lists → AreArms c (arms_over arms lists)
arms_sources c [] lists all = All-nil (λ (arm : UnionArm). AreSources c arm.items)
arms_sources c (arm ∷ arms) [] all = All-nil (λ (arm : UnionArm). AreSources c arm.items)
arms_sources c (arm ∷ arms) (list ∷ lists) all =
    All-cons (λ (arm : UnionArm). AreSources c arm.items) (record { at = arm.at.start; items = list }) (arms_over arms lists) (All-head (AreSources c) list lists all)
    (arms_sources c arms lists (All-tail (AreSources c) list lists all))
