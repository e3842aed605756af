-- A front is what some statement begins with.
use Rattle.std.proofs.Common.{◌≡◌, true, ◌⊎◌, inl, inr, List, [], ◌∷◌, ◌++◌, refl, sym, ap, subst, ◌∙◌, append_assoc, arith}
use Rattle.xp_token.specs.declared.token.Token.{Token}
use Rattle.xp_token.specs.declared.words.Word.TheVariants as w
use Rattle.xp_token.specs.declared.token.Mark.TheVariants as m
use Rattle.xp_grammar.proofs.Samples.{sample}
use Rattle.xp_grammar.specs.declared.kind.Kind.TheVariants as k
use Rattle.xp_grammar.specs.declared.kind.Class.{Class}
use Rattle.xp_grammar.specs.declared.kind.Class.TheVariants.{Only, Plains, Constants}
use Rattle.xp_grammar.specs.Kinds.{kind, has}
use Rattle.xp_grammar.specs.Table.{Level, Sym, Tok, Lev, Value, Word, Start, Tail, level, parts, made, on, turn, joined}
use Rattle.xp_grammar.specs.Table.{Level as l}
use Rattle.xp_grammar.specs.Table.{Start as s}
use Rattle.xp_grammar.specs.Table.{Tail as c}
use Rattle.xp_grammar.specs.Grammar.{Derives}
use Rattle.xp_grammar.specs.Reads.{IsFront}
use Rattle.xp_grammar.proofs.Front.{Front}
use Rattle.xp_grammar.proofs.Sound.{Whole, and_more, whole_start, whole_tail, widen}
use Rattle.xp_grammar.proofs.Complete.{led_alone, same_head}

same_tail : {A : Type 0} (x y : A) (xs ys : List A) → x ∷ xs ≡ y ∷ ys → xs ≡ ys
same_tail x y xs ys e = grind arith

-- two ways to cut a list
pub cut : (u t a b : List Token) → u ++ t ≡ a ++ b → ((c : List Token) × (u ≡ a ++ c)) ⊎ ((c : List Token) × (a ≡ u ++ c) × (t ≡ c ++ b))
cut [] t a b e = inr (a, refl, e)
cut (x ∷ u) t [] b e = inl (x ∷ u, refl)
cut (x ∷ u) t (y ∷ a) b e = by (cut u t a b (same_tail x y (u ++ t) (a ++ b) e))
  where
    by : ((c : List Token) × (u ≡ a ++ c)) ⊎ ((c : List Token) × (a ≡ u ++ c) × (t ≡ c ++ b)) → ((c : List Token) × (x ∷ u ≡ y ∷ (a ++ c))) ⊎ ((c : List Token) × (y ∷ a ≡ x ∷ (u ++ c)) × (t ≡ c ++ b))
    by (inl (c, q)) = inl (c, ap (λ z. x ∷ z) q ∙ ap (λ z. z ∷ (a ++ c)) (same_head x y (u ++ t) (a ++ b) e))
    by (inr (c, q, h)) = inr (c, ap (λ z. y ∷ z) q ∙ ap (λ z. z ∷ (u ++ c)) (sym (same_head x y (u ++ t) (a ++ b) e)), h)

derived_part : {ss : List Sym} {u : List Token} {vs : List Value} → Derives ss u vs → (a b : List Token) → u ≡ a ++ b → Front ss a
derived_part Derives.none [] b e = Front.nothing
derived_part Derives.none (t ∷ a) b e = absurd cc
derived_part (Derives.token k t h d) [] b e = Front.nothing
derived_part (Derives.token {ss = ss} {ts = ts} k t h d) (t' ∷ a) b e =
    subst (λ z. Front (Tok k ∷ ss) (z ∷ a)) (same_head t t' ts (a ++ b) e) (Front.token k t h (derived_part d a b (same_tail t t' ts (a ++ b) e)))
derived_part (Derives.begins {ss = ss} {us = us} {ts = ts} {ws = ws} x d e) a b q = by (cut us ts a b q) (derived_part d) (derived_part e)
  where
    by : ((c : List Token) × (us ≡ a ++ c)) ⊎ ((c : List Token) × (a ≡ us ++ c) × (ts ≡ c ++ b))
        → ((a' b' : List Token) → us ≡ a' ++ b' → Front (parts x) a') → ((a' b' : List Token) → ts ≡ a' ++ b' → Front ss a') → Front (Lev (level x) ∷ ss) a
    by (inl (c, h)) first second = Front.begins x (first a c h)
    by (inr (c, h, g)) first second = subst (λ z. Front (Lev (level x) ∷ ss) z) (sym h) (Front.past (level x) (whole_start x us ws d) (second c b g))
derived_part (Derives.goes_on {ss = ss} {fs = fs} {us = us} {ts = ts} {v = v} {ws = ws} x d f g e) a b q = by (cut (fs ++ us) ts a b q) (derived_part d) (derived_part g) (derived_part e)
  where
    within : (c : List Token) → ((c' : List Token) × (fs ≡ a ++ c')) ⊎ ((c' : List Token) × (a ≡ fs ++ c') × (us ≡ c' ++ c))
        → ((a' b' : List Token) → fs ≡ a' ++ b' → Front (Lev (on x) ∷ []) a') → ((a' b' : List Token) → us ≡ a' ++ b' → Front (turn x) a') → Front (Lev (on x) ∷ ss) a
    within c (inl (c', h)) first second = widen (first a c' h)
    within c (inr (c', h, k)) first second = subst (λ z. Front (Lev (on x) ∷ ss) z) (sym h) (Front.goes_on x d f (second c' c k))

    by : ((c : List Token) × (fs ++ us ≡ a ++ c)) ⊎ ((c : List Token) × (a ≡ (fs ++ us) ++ c) × (ts ≡ c ++ b))
        → ((a' b' : List Token) → fs ≡ a' ++ b' → Front (Lev (on x) ∷ []) a') → ((a' b' : List Token) → us ≡ a' ++ b' → Front (turn x) a')
        → ((a' b' : List Token) → ts ≡ a' ++ b' → Front ss a') → Front (Lev (on x) ∷ ss) a
    by (inl (c, h)) first second third = within c (cut fs us a c h) first second
    by (inr (c, h, k)) first second third = subst (λ z. Front (Lev (on x) ∷ ss) z) (sym h) (Front.past (on x) (whole_tail x fs us v ws d f g) (third c b k))

-- ---- something is derived

abbrev Some : List Sym → Type 0
Some ss = (u : List Token) × (vs : List Value) × Derives ss u vs

abbrev Has : Level → Type 0
Has m = (u : List Token) × (v : Value) × Whole m u v

nothing : Some []
nothing = ([], [], Derives.none)

then_level : {ss : List Sym} (m : Level) → Has m → Some ss → Some (Lev m ∷ ss)
then_level m (u, v, d) (w, vs, e) = (u ++ w, v ∷ vs, and_more d e)

then_token : {ss : List Sym} (a : Class) (x : Token) → has a (kind x) ≡ true → Some ss → Some (Tok a ∷ ss)
then_token a x h (w, vs, e) = (x ∷ w, Word x ∷ vs, Derives.token a x h e)

by_line : (x : Start) → Some (parts x) → Has (level x)
by_line x (u, vs, d) = (u, made x vs, whole_start x u vs d)

has_E12 : Has l.E12
has_E12 = by_line s.constant (then_token Constants (sample k.Whole) refl nothing)

has_Typename : Has l.Typename
has_Typename = by_line s.plain_type (then_token Plains (sample k.Name) refl nothing)

has_E11 : Has l.E11
has_E11 = by_line s.operand (then_level l.E12 has_E12 nothing)

has_Basic : Has l.Basic
has_Basic = by_line s.basic (then_level l.Typename has_Typename nothing)

has_E10 : Has l.E10
has_E10 = by_line s.sign_free (then_level l.E11 has_E11 nothing)

has_Full : Has l.Full
has_Full = by_line s.full_basic (then_level l.Basic has_Basic nothing)

has_E9 : Has l.E9
has_E9 = by_line s.one_power (then_level l.E10 has_E10 nothing)

has_E8 : Has l.E8
has_E8 = by_line s.one_product (then_level l.E9 has_E9 nothing)

has_E7 : Has l.E7
has_E7 = by_line s.one_sum (then_level l.E8 has_E8 nothing)

has_E6 : Has l.E6
has_E6 = by_line s.other_free (then_level l.E7 has_E7 nothing)

has_P : Has l.P
has_P = by_line s.prefix (then_token (Only k.Other) (sample k.Other) refl (then_level l.E7 has_E7 nothing))

has_E5 : Has l.E5
has_E5 = by_line s.range_free (then_level l.E6 has_E6 nothing)

has_E4 : Has l.E4
has_E4 = by_line s.compare_free (then_level l.E5 has_E5 nothing)

has_E3 : Has l.E3
has_E3 = by_line s.test_free (then_level l.E4 has_E4 nothing)

has_E2 : Has l.E2
has_E2 = by_line s.not_free (then_level l.E3 has_E3 nothing)

has_E1 : Has l.E1
has_E1 = by_line s.one_and (then_level l.E2 has_E2 nothing)

has_E0 : Has l.E0
has_E0 = by_line s.one_or (then_level l.E1 has_E1 nothing)

has_Args : Has l.Args
has_Args = by_line s.one_arg (then_level l.E0 has_E0 nothing)

has_Arms : Has l.Arms
has_Arms = by_line s.first_arm (then_token (Only (k.Word w.When)) (sample (k.Word w.When)) refl (then_level l.E0 has_E0 (then_token (Only (k.Word w.Then)) (sample (k.Word w.Then)) refl (then_level l.E0 has_E0 nothing))))

has_Statement : Has l.Statement
has_Statement = by_line s.store (then_token (Only (k.Word w.Store)) (sample (k.Word w.Store)) refl (then_level l.Full has_Full (then_token (Only (k.Word w.From)) (sample (k.Word w.From)) refl (then_level l.E0 has_E0 nothing))))

has_Item : Has l.Item
has_Item = by_line s.item (then_level l.E0 has_E0 nothing)

has_Shown : Has l.Shown
has_Shown = by_line s.first_shown (then_level l.E0 has_E0 nothing)

has_Items : Has l.Items
has_Items = by_line s.first_item (then_level l.Item has_Item nothing)

has_Rows : Has l.Rows
has_Rows = by_line s.first_row (then_token (Only (k.Mark m.OpenParen)) (sample (k.Mark m.OpenParen)) refl (then_level l.Shown has_Shown (then_token (Only (k.Mark m.CloseParen)) (sample (k.Mark m.CloseParen)) refl nothing)))

has_Selects : Has l.Selects
has_Selects = by_line s.select (then_token (Only (k.Word w.Select)) (sample (k.Word w.Select)) refl (then_level l.Items has_Items nothing))

some_level : (m : Level) → Has m
some_level l.Statement = has_Statement
some_level l.Selects = has_Selects
some_level l.Items = has_Items
some_level l.Item = has_Item
some_level l.Rows = has_Rows
some_level l.Shown = has_Shown
some_level l.E0 = has_E0
some_level l.E1 = has_E1
some_level l.E2 = has_E2
some_level l.E3 = has_E3
some_level l.E4 = has_E4
some_level l.E5 = has_E5
some_level l.E6 = has_E6
some_level l.P = has_P
some_level l.E7 = has_E7
some_level l.E8 = has_E8
some_level l.E9 = has_E9
some_level l.E10 = has_E10
some_level l.E11 = has_E11
some_level l.E12 = has_E12
some_level l.Args = has_Args
some_level l.Arms = has_Arms
some_level l.Full = has_Full
some_level l.Basic = has_Basic
some_level l.Typename = has_Typename

-- each class of these symbols has a token
abbrev Possible : List Sym → Type 0
Possible [] = Unit {0}
Possible (Tok a ∷ ss) = ((x : Token) × (has a (kind x) ≡ true)) × Possible ss
Possible (Lev m ∷ ss) = Possible ss

possible_parts : (x : Start) → Possible (parts x)
possible_parts s.selects = tt
possible_parts s.values = (((sample (k.Word w.Values)), refl), tt)
possible_parts s.store = (((sample (k.Word w.Store)), refl), (((sample (k.Word w.From)), refl), tt))
possible_parts s.describe = (((sample (k.Word w.Describe)), refl), tt)
possible_parts s.explain = (((sample (k.Word w.Explain)), refl), tt)
possible_parts s.explain_analyze = (((sample (k.Word w.Explain)), refl), (((sample (k.Word w.Analyze)), refl), tt))
possible_parts s.select = (((sample (k.Word w.Select)), refl), tt)
possible_parts s.first_item = tt
possible_parts s.item = tt
possible_parts s.item_as = (((sample (k.Word w.As)), refl), (((sample k.Name), refl), tt))
possible_parts s.first_row = (((sample (k.Mark m.OpenParen)), refl), (((sample (k.Mark m.CloseParen)), refl), tt))
possible_parts s.first_shown = tt
possible_parts s.one_or = tt
possible_parts s.one_and = tt
possible_parts s.not_free = tt
possible_parts s.not = (((sample (k.Word w.Not)), refl), tt)
possible_parts s.test_free = tt
possible_parts s.is_truth = (((sample (k.Word w.Is)), refl), (((sample (k.Word w.Null)), refl), tt))
possible_parts s.is_not_truth = (((sample (k.Word w.Is)), refl), (((sample (k.Word w.Not)), refl), (((sample (k.Word w.Null)), refl), tt)))
possible_parts s.isnull = (((sample (k.Word w.Isnull)), refl), tt)
possible_parts s.notnull = (((sample (k.Word w.Notnull)), refl), tt)
possible_parts s.is_distinct = (((sample (k.Word w.Is)), refl), (((sample (k.Word w.Distinct)), refl), (((sample (k.Word w.From)), refl), tt)))
possible_parts s.is_not_distinct = (((sample (k.Word w.Is)), refl), (((sample (k.Word w.Not)), refl), (((sample (k.Word w.Distinct)), refl), (((sample (k.Word w.From)), refl), tt))))
possible_parts s.compare_free = tt
possible_parts s.compared = (((sample k.Compare), refl), tt)
possible_parts s.range_free = tt
possible_parts s.between = (((sample (k.Word w.Between)), refl), (((sample (k.Word w.And)), refl), tt))
possible_parts s.not_between = (((sample (k.Word w.Not)), refl), (((sample (k.Word w.Between)), refl), (((sample (k.Word w.And)), refl), tt)))
possible_parts s.within = (((sample (k.Word w.In)), refl), (((sample (k.Mark m.OpenParen)), refl), (((sample (k.Mark m.CloseParen)), refl), tt)))
possible_parts s.not_within = (((sample (k.Word w.Not)), refl), (((sample (k.Word w.In)), refl), (((sample (k.Mark m.OpenParen)), refl), (((sample (k.Mark m.CloseParen)), refl), tt))))
possible_parts s.like = (((sample (k.Word w.Like)), refl), tt)
possible_parts s.not_like = (((sample (k.Word w.Not)), refl), (((sample (k.Word w.Like)), refl), tt))
possible_parts s.other_free = tt
possible_parts s.other_prefix = tt
possible_parts s.prefix = (((sample k.Other), refl), tt)
possible_parts s.prefix_prefix = (((sample k.Other), refl), tt)
possible_parts s.one_sum = tt
possible_parts s.one_product = tt
possible_parts s.one_power = tt
possible_parts s.sign_free = tt
possible_parts s.signed = (((sample k.Sign), refl), tt)
possible_parts s.operand = tt
possible_parts s.constant = (((sample k.Whole), refl), tt)
possible_parts s.column = (((sample k.Name), refl), tt)
possible_parts s.typed_constant = (((sample k.Name), refl), (((sample k.String), refl), tt))
possible_parts s.called_empty = (((sample k.Name), refl), (((sample (k.Mark m.OpenParen)), refl), (((sample (k.Mark m.CloseParen)), refl), tt)))
possible_parts s.called = (((sample k.Name), refl), (((sample (k.Mark m.OpenParen)), refl), (((sample (k.Mark m.CloseParen)), refl), tt)))
possible_parts s.paren = (((sample (k.Mark m.OpenParen)), refl), (((sample (k.Mark m.CloseParen)), refl), tt))
possible_parts s.cast_as = (((sample (k.Word w.Cast)), refl), (((sample (k.Mark m.OpenParen)), refl), (((sample (k.Word w.As)), refl), (((sample (k.Mark m.CloseParen)), refl), tt))))
possible_parts s.cases = (((sample (k.Word w.Case)), refl), (((sample (k.Word w.End)), refl), tt))
possible_parts s.cases_else = (((sample (k.Word w.Case)), refl), (((sample (k.Word w.Else)), refl), (((sample (k.Word w.End)), refl), tt)))
possible_parts s.cases_of = (((sample (k.Word w.Case)), refl), (((sample (k.Word w.End)), refl), tt))
possible_parts s.cases_of_else = (((sample (k.Word w.Case)), refl), (((sample (k.Word w.Else)), refl), (((sample (k.Word w.End)), refl), tt)))
possible_parts s.selection = (((sample (k.Word w.Coalesce)), refl), (((sample (k.Mark m.OpenParen)), refl), (((sample (k.Mark m.CloseParen)), refl), tt)))
possible_parts s.nullif = (((sample (k.Word w.Nullif)), refl), (((sample (k.Mark m.OpenParen)), refl), (((sample (k.Mark m.Comma)), refl), (((sample (k.Mark m.CloseParen)), refl), tt))))
possible_parts s.array_empty = (((sample (k.Word w.Array)), refl), (((sample (k.Mark m.OpenBracket)), refl), (((sample (k.Mark m.CloseBracket)), refl), tt)))
possible_parts s.array = (((sample (k.Word w.Array)), refl), (((sample (k.Mark m.OpenBracket)), refl), (((sample (k.Mark m.CloseBracket)), refl), tt)))
possible_parts s.position = (((sample (k.Word w.Position)), refl), (((sample (k.Mark m.OpenParen)), refl), (((sample (k.Word w.In)), refl), (((sample (k.Mark m.CloseParen)), refl), tt))))
possible_parts s.substring_one = (((sample (k.Word w.Substring)), refl), (((sample (k.Mark m.OpenParen)), refl), (((sample (k.Mark m.CloseParen)), refl), tt)))
possible_parts s.substring_more = (((sample (k.Word w.Substring)), refl), (((sample (k.Mark m.OpenParen)), refl), (((sample (k.Mark m.Comma)), refl), (((sample (k.Mark m.CloseParen)), refl), tt))))
possible_parts s.substring_from = (((sample (k.Word w.Substring)), refl), (((sample (k.Mark m.OpenParen)), refl), (((sample (k.Word w.From)), refl), (((sample (k.Mark m.CloseParen)), refl), tt))))
possible_parts s.substring_from_for = (((sample (k.Word w.Substring)), refl), (((sample (k.Mark m.OpenParen)), refl), (((sample (k.Word w.From)), refl), (((sample (k.Word w.For)), refl), (((sample (k.Mark m.CloseParen)), refl), tt)))))
possible_parts s.substring_for = (((sample (k.Word w.Substring)), refl), (((sample (k.Mark m.OpenParen)), refl), (((sample (k.Word w.For)), refl), (((sample (k.Mark m.CloseParen)), refl), tt))))
possible_parts s.trim_from = (((sample (k.Word w.Trim)), refl), (((sample (k.Mark m.OpenParen)), refl), (((sample (k.Word w.From)), refl), (((sample (k.Mark m.CloseParen)), refl), tt))))
possible_parts s.trim_set_from = (((sample (k.Word w.Trim)), refl), (((sample (k.Mark m.OpenParen)), refl), (((sample (k.Word w.From)), refl), (((sample (k.Mark m.CloseParen)), refl), tt))))
possible_parts s.trim_side_from = (((sample (k.Word w.Trim)), refl), (((sample (k.Mark m.OpenParen)), refl), (((sample (k.Word w.Both)), refl), (((sample (k.Word w.From)), refl), (((sample (k.Mark m.CloseParen)), refl), tt)))))
possible_parts s.trim_side_set_from = (((sample (k.Word w.Trim)), refl), (((sample (k.Mark m.OpenParen)), refl), (((sample (k.Word w.Both)), refl), (((sample (k.Word w.From)), refl), (((sample (k.Mark m.CloseParen)), refl), tt)))))
possible_parts s.trim = (((sample (k.Word w.Trim)), refl), (((sample (k.Mark m.OpenParen)), refl), (((sample (k.Mark m.CloseParen)), refl), tt)))
possible_parts s.trim_set = (((sample (k.Word w.Trim)), refl), (((sample (k.Mark m.OpenParen)), refl), (((sample (k.Mark m.Comma)), refl), (((sample (k.Mark m.CloseParen)), refl), tt))))
possible_parts s.trim_side = (((sample (k.Word w.Trim)), refl), (((sample (k.Mark m.OpenParen)), refl), (((sample (k.Word w.Both)), refl), (((sample (k.Mark m.CloseParen)), refl), tt))))
possible_parts s.trim_side_set = (((sample (k.Word w.Trim)), refl), (((sample (k.Mark m.OpenParen)), refl), (((sample (k.Word w.Both)), refl), (((sample (k.Mark m.Comma)), refl), (((sample (k.Mark m.CloseParen)), refl), tt)))))
possible_parts s.extract = (((sample (k.Word w.Extract)), refl), (((sample (k.Mark m.OpenParen)), refl), (((sample k.Name), refl), (((sample (k.Word w.From)), refl), (((sample (k.Mark m.CloseParen)), refl), tt)))))
possible_parts s.one_arg = tt
possible_parts s.variadic = (((sample (k.Word w.Variadic)), refl), tt)
possible_parts s.first_arm = (((sample (k.Word w.When)), refl), (((sample (k.Word w.Then)), refl), tt))
possible_parts s.full_basic = tt
possible_parts s.basic = tt
possible_parts s.basic_sized = (((sample (k.Mark m.OpenParen)), refl), (((sample k.Whole), refl), (((sample (k.Mark m.CloseParen)), refl), tt)))
possible_parts s.basic_scaled = (((sample (k.Mark m.OpenParen)), refl), (((sample k.Whole), refl), (((sample (k.Mark m.Comma)), refl), (((sample k.Whole), refl), (((sample (k.Mark m.CloseParen)), refl), tt)))))
possible_parts s.plain_type = (((sample k.Name), refl), tt)
possible_parts s.double_type = (((sample k.Double), refl), tt)
possible_parts s.double_precision = (((sample k.Double), refl), (((sample k.Precision), refl), tt))
possible_parts s.character_type = (((sample k.Character), refl), tt)
possible_parts s.character_varying = (((sample k.Character), refl), (((sample k.Varying), refl), tt))
possible_parts s.moment_type = (((sample k.Timestamp), refl), tt)
possible_parts s.moment_zoned = (((sample k.Timestamp), refl), (((sample k.With), refl), (((sample k.Time), refl), (((sample k.Zone), refl), tt))))

possible_turn : (x : Tail) → Possible (turn x)
possible_turn c.union = (((sample (k.Word w.Union)), refl), (((sample (k.Word w.All)), refl), (((sample (k.Word w.Select)), refl), tt)))
possible_turn c.next_item = (((sample (k.Mark m.Comma)), refl), tt)
possible_turn c.next_row = (((sample (k.Mark m.Comma)), refl), (((sample (k.Mark m.OpenParen)), refl), (((sample (k.Mark m.CloseParen)), refl), tt)))
possible_turn c.next_shown = (((sample (k.Mark m.Comma)), refl), tt)
possible_turn c.or = (((sample (k.Word w.Or)), refl), tt)
possible_turn c.and = (((sample (k.Word w.And)), refl), tt)
possible_turn c.other_then = (((sample k.Other), refl), tt)
possible_turn c.other_then_prefix = (((sample k.Other), refl), tt)
possible_turn c.added = (((sample k.Sign), refl), tt)
possible_turn c.multiplied = (((sample k.Times), refl), tt)
possible_turn c.raised = (((sample k.Power), refl), tt)
possible_turn c.cast = (((sample (k.Mark m.DoubleColon)), refl), tt)
possible_turn c.empty_brackets = (((sample (k.Mark m.OpenBracket)), refl), (((sample (k.Mark m.CloseBracket)), refl), tt))
possible_turn c.brackets = (((sample (k.Mark m.OpenBracket)), refl), (((sample (k.Mark m.CloseBracket)), refl), tt))
possible_turn c.next_one = (((sample (k.Mark m.Comma)), refl), tt)
possible_turn c.next_variadic = (((sample (k.Mark m.Comma)), refl), (((sample (k.Word w.Variadic)), refl), tt))
possible_turn c.next_arm = (((sample (k.Word w.When)), refl), (((sample (k.Word w.Then)), refl), tt))
possible_turn c.full_pair = (((sample (k.Mark m.OpenBracket)), refl), (((sample (k.Mark m.CloseBracket)), refl), tt))
possible_turn c.full_sized_pair = (((sample (k.Mark m.OpenBracket)), refl), (((sample k.Whole), refl), (((sample (k.Mark m.CloseBracket)), refl), tt)))

some_of : (ss : List Sym) → Possible ss → Some ss
some_of [] p = nothing
some_of (Tok a ∷ ss) ((x, h), p) = then_token a x h (some_of ss p)
some_of (Lev m ∷ ss) p = then_level m (some_level m) (some_of ss p)

-- ---- a front is completed

abbrev Completed : List Sym → List Token → Type 0
Completed ss ts = (r : List Token) × (vs : List Value) × Derives ss (ts ++ r) vs

completed : {ss : List Sym} {ts : List Token} → Front ss ts → Possible ss → Completed ss ts
completed {ss = ss} Front.nothing p = some_of ss p
completed (Front.token a x h f) (q, p) = let more = completed f p in (more.0, Word x ∷ more.1, Derives.token a x h more.2)
completed (Front.begins {ss = ss} {ts = ts} x f) p =
    let more = completed f (possible_parts x) in
    let others = some_of ss p in
    (more.0 ++ others.0, made x more.1 ∷ others.1, subst (λ z. Derives (Lev (level x) ∷ ss) z (made x more.1 ∷ others.1)) (append_assoc ts more.0 others.0) (Derives.begins x more.2 others.2))
completed (Front.goes_on {ss = ss} {fs = fs} {ts = ts} {v = v} x d h f) p =
    let more = completed f (possible_turn x) in
    let others = some_of ss p in
    let place : (fs ++ (ts ++ more.0)) ++ others.0 ≡ (fs ++ ts) ++ (more.0 ++ others.0) =
    ap (λ z. z ++ others.0) (sym (append_assoc fs ts more.0)) ∙ append_assoc (fs ++ ts) more.0 others.0 in (
      more.0 ++ others.0,
      joined x v (ts ++ more.0) more.1 ∷ others.1,
      subst (λ z. Derives (Lev (on x) ∷ ss) z (joined x v (ts ++ more.0) more.1 ∷ others.1)) place (Derives.goes_on x d h more.2 others.2),
    )
completed (Front.past {ss = ss} {us = us} {ts = ts} {vs = vs} m d f) p =
    let more = completed f p in
    let one = led_alone m us vs d in
    let whole : Whole m us one.0 = subst (λ z. Derives (Lev m ∷ []) us z) one.1 d in
    (more.0, one.0 ∷ more.1, subst (λ z. Derives (Lev m ∷ ss) z (one.0 ∷ more.1)) (sym (append_assoc us ts more.0)) (and_more whole more.2))

pub is_front : (ts : List Token) → Front (Lev l.Statement ∷ []) ts → IsFront ts
is_front ts f =
    let all = completed f tt in
    let one = led_alone l.Statement (ts ++ all.0) all.1 all.2 in
    (all.0, one.0, subst (λ z. Derives (Lev l.Statement ∷ []) (ts ++ all.0) z) one.1 all.2)

pub front_is : (ts : List Token) → IsFront ts → Front (Lev l.Statement ∷ []) ts
front_is ts (r, v, d) = derived_part d ts r refl
