-- What one token ahead says, and what of that the table keeps.
use Rattle.std.proofs.Common.{◌≡◌, ℕ, suc, ◌≤◌, Bool, true, false, not, ◌&&◌, ◌||◌, ◌⊎◌, inl, inr, nat_le, List, [], ◌∷◌, Option, Some, None, refl, ap, ◌∙◌, arith}
use Rattle.std.proofs.lemmas.Bool.{and_parts, or_parts}
use Rattle.xp_token.specs.declared.words.Word.TheVariants as w
use Rattle.xp_token.specs.declared.token.Mark.TheVariants as m
use Rattle.xp_grammar.specs.declared.kind.Kind.{Kind}
use Rattle.xp_grammar.specs.declared.kind.Class.{Class}
use Rattle.xp_grammar.specs.Kinds.{has, among}
use Rattle.xp_grammar.specs.declared.kind.Kind.TheVariants as k
use Rattle.xp_grammar.specs.Table.{Level, Sym, Tok, Lev, Start, Tail, level, parts, on, lead, rest, takes}
use Rattle.xp_grammar.specs.Table.{Level as l}
use Rattle.xp_grammar.specs.Table.{Start as s}
use Rattle.xp_grammar.specs.Table.{Tail as c}
use Rattle.xp_grammar.specs.inner.Machine.{Node, Edges, node, stop, edge, trie, tails, first, opens, any_opens, rank}
use Rattle.xp_grammar.proofs.Bits.{implies, implied, implied_false, every, every_at}

abbrev inner_list : Level → List Kind
inner_list l.Statement = k.String ∷ k.Precision ∷ k.Varying ∷ k.With ∷ k.Without ∷ (k.Word w.And) ∷ (k.Word w.As) ∷ (k.Word w.Between) ∷ (k.Word w.Ilike) ∷ (k.Word w.In) ∷ (k.Word w.Is) ∷ (k.Word w.Isnull) ∷ (k.Word w.Like) ∷ (k.Word w.Not) ∷ (k.Word w.Notnull) ∷ (k.Word w.Or) ∷ (k.Word w.Union) ∷ k.Sign ∷ k.Times ∷ k.Power ∷ k.Compare ∷ k.Other ∷ (k.Mark m.OpenParen) ∷ (k.Mark m.OpenBracket) ∷ (k.Mark m.Comma) ∷ (k.Mark m.DoubleColon) ∷ []
inner_list l.Selects = k.String ∷ k.Precision ∷ k.Varying ∷ k.With ∷ k.Without ∷ (k.Word w.And) ∷ (k.Word w.As) ∷ (k.Word w.Between) ∷ (k.Word w.Ilike) ∷ (k.Word w.In) ∷ (k.Word w.Is) ∷ (k.Word w.Isnull) ∷ (k.Word w.Like) ∷ (k.Word w.Not) ∷ (k.Word w.Notnull) ∷ (k.Word w.Or) ∷ k.Sign ∷ k.Times ∷ k.Power ∷ k.Compare ∷ k.Other ∷ (k.Mark m.OpenParen) ∷ (k.Mark m.OpenBracket) ∷ (k.Mark m.Comma) ∷ (k.Mark m.DoubleColon) ∷ []
inner_list l.Items = k.String ∷ k.Precision ∷ k.Varying ∷ k.With ∷ k.Without ∷ (k.Word w.And) ∷ (k.Word w.As) ∷ (k.Word w.Between) ∷ (k.Word w.Ilike) ∷ (k.Word w.In) ∷ (k.Word w.Is) ∷ (k.Word w.Isnull) ∷ (k.Word w.Like) ∷ (k.Word w.Not) ∷ (k.Word w.Notnull) ∷ (k.Word w.Or) ∷ k.Sign ∷ k.Times ∷ k.Power ∷ k.Compare ∷ k.Other ∷ (k.Mark m.OpenParen) ∷ (k.Mark m.OpenBracket) ∷ (k.Mark m.DoubleColon) ∷ []
inner_list l.Item = k.String ∷ k.Precision ∷ k.Varying ∷ k.With ∷ k.Without ∷ (k.Word w.And) ∷ (k.Word w.As) ∷ (k.Word w.Between) ∷ (k.Word w.Ilike) ∷ (k.Word w.In) ∷ (k.Word w.Is) ∷ (k.Word w.Isnull) ∷ (k.Word w.Like) ∷ (k.Word w.Not) ∷ (k.Word w.Notnull) ∷ (k.Word w.Or) ∷ k.Sign ∷ k.Times ∷ k.Power ∷ k.Compare ∷ k.Other ∷ (k.Mark m.OpenParen) ∷ (k.Mark m.OpenBracket) ∷ (k.Mark m.DoubleColon) ∷ []
inner_list l.Rows = []
inner_list l.Shown = k.String ∷ k.Precision ∷ k.Varying ∷ k.With ∷ k.Without ∷ (k.Word w.And) ∷ (k.Word w.Between) ∷ (k.Word w.Ilike) ∷ (k.Word w.In) ∷ (k.Word w.Is) ∷ (k.Word w.Isnull) ∷ (k.Word w.Like) ∷ (k.Word w.Not) ∷ (k.Word w.Notnull) ∷ (k.Word w.Or) ∷ k.Sign ∷ k.Times ∷ k.Power ∷ k.Compare ∷ k.Other ∷ (k.Mark m.OpenParen) ∷ (k.Mark m.OpenBracket) ∷ (k.Mark m.DoubleColon) ∷ []
inner_list l.E0 = k.String ∷ k.Precision ∷ k.Varying ∷ k.With ∷ k.Without ∷ (k.Word w.And) ∷ (k.Word w.Between) ∷ (k.Word w.Ilike) ∷ (k.Word w.In) ∷ (k.Word w.Is) ∷ (k.Word w.Isnull) ∷ (k.Word w.Like) ∷ (k.Word w.Not) ∷ (k.Word w.Notnull) ∷ k.Sign ∷ k.Times ∷ k.Power ∷ k.Compare ∷ k.Other ∷ (k.Mark m.OpenParen) ∷ (k.Mark m.OpenBracket) ∷ (k.Mark m.DoubleColon) ∷ []
inner_list l.E1 = k.String ∷ k.Precision ∷ k.Varying ∷ k.With ∷ k.Without ∷ (k.Word w.Between) ∷ (k.Word w.Ilike) ∷ (k.Word w.In) ∷ (k.Word w.Is) ∷ (k.Word w.Isnull) ∷ (k.Word w.Like) ∷ (k.Word w.Not) ∷ (k.Word w.Notnull) ∷ k.Sign ∷ k.Times ∷ k.Power ∷ k.Compare ∷ k.Other ∷ (k.Mark m.OpenParen) ∷ (k.Mark m.OpenBracket) ∷ (k.Mark m.DoubleColon) ∷ []
inner_list l.E2 = k.String ∷ k.Precision ∷ k.Varying ∷ k.With ∷ k.Without ∷ (k.Word w.Between) ∷ (k.Word w.Ilike) ∷ (k.Word w.In) ∷ (k.Word w.Is) ∷ (k.Word w.Isnull) ∷ (k.Word w.Like) ∷ (k.Word w.Not) ∷ (k.Word w.Notnull) ∷ k.Sign ∷ k.Times ∷ k.Power ∷ k.Compare ∷ k.Other ∷ (k.Mark m.OpenParen) ∷ (k.Mark m.OpenBracket) ∷ (k.Mark m.DoubleColon) ∷ []
inner_list l.E3 = k.String ∷ k.Precision ∷ k.Varying ∷ k.With ∷ k.Without ∷ (k.Word w.Between) ∷ (k.Word w.Ilike) ∷ (k.Word w.In) ∷ (k.Word w.Is) ∷ (k.Word w.Isnull) ∷ (k.Word w.Like) ∷ (k.Word w.Not) ∷ (k.Word w.Notnull) ∷ k.Sign ∷ k.Times ∷ k.Power ∷ k.Compare ∷ k.Other ∷ (k.Mark m.OpenParen) ∷ (k.Mark m.OpenBracket) ∷ (k.Mark m.DoubleColon) ∷ []
inner_list l.E4 = k.String ∷ k.Precision ∷ k.Varying ∷ k.With ∷ k.Without ∷ (k.Word w.Between) ∷ (k.Word w.Ilike) ∷ (k.Word w.In) ∷ (k.Word w.Like) ∷ (k.Word w.Not) ∷ k.Sign ∷ k.Times ∷ k.Power ∷ k.Compare ∷ k.Other ∷ (k.Mark m.OpenParen) ∷ (k.Mark m.OpenBracket) ∷ (k.Mark m.DoubleColon) ∷ []
inner_list l.E5 = k.String ∷ k.Precision ∷ k.Varying ∷ k.With ∷ k.Without ∷ (k.Word w.Between) ∷ (k.Word w.Ilike) ∷ (k.Word w.In) ∷ (k.Word w.Like) ∷ (k.Word w.Not) ∷ k.Sign ∷ k.Times ∷ k.Power ∷ k.Other ∷ (k.Mark m.OpenParen) ∷ (k.Mark m.OpenBracket) ∷ (k.Mark m.DoubleColon) ∷ []
inner_list l.E6 = k.String ∷ k.Precision ∷ k.Varying ∷ k.With ∷ k.Without ∷ k.Sign ∷ k.Times ∷ k.Power ∷ (k.Mark m.OpenParen) ∷ (k.Mark m.OpenBracket) ∷ (k.Mark m.DoubleColon) ∷ []
inner_list l.P = k.String ∷ k.Precision ∷ k.Varying ∷ k.With ∷ k.Without ∷ k.Sign ∷ k.Times ∷ k.Power ∷ (k.Mark m.OpenParen) ∷ (k.Mark m.OpenBracket) ∷ (k.Mark m.DoubleColon) ∷ []
inner_list l.E7 = k.String ∷ k.Precision ∷ k.Varying ∷ k.With ∷ k.Without ∷ k.Times ∷ k.Power ∷ (k.Mark m.OpenParen) ∷ (k.Mark m.OpenBracket) ∷ (k.Mark m.DoubleColon) ∷ []
inner_list l.E8 = k.String ∷ k.Precision ∷ k.Varying ∷ k.With ∷ k.Without ∷ k.Power ∷ (k.Mark m.OpenParen) ∷ (k.Mark m.OpenBracket) ∷ (k.Mark m.DoubleColon) ∷ []
inner_list l.E9 = k.String ∷ k.Precision ∷ k.Varying ∷ k.With ∷ k.Without ∷ (k.Mark m.OpenParen) ∷ (k.Mark m.OpenBracket) ∷ (k.Mark m.DoubleColon) ∷ []
inner_list l.E10 = k.String ∷ k.Precision ∷ k.Varying ∷ k.With ∷ k.Without ∷ (k.Mark m.OpenParen) ∷ (k.Mark m.OpenBracket) ∷ (k.Mark m.DoubleColon) ∷ []
inner_list l.E11 = k.String ∷ k.Precision ∷ k.Varying ∷ k.With ∷ k.Without ∷ (k.Mark m.OpenParen) ∷ []
inner_list l.E12 = k.String ∷ (k.Mark m.OpenParen) ∷ []
inner_list l.Args = k.String ∷ k.Precision ∷ k.Varying ∷ k.With ∷ k.Without ∷ (k.Word w.And) ∷ (k.Word w.Between) ∷ (k.Word w.Ilike) ∷ (k.Word w.In) ∷ (k.Word w.Is) ∷ (k.Word w.Isnull) ∷ (k.Word w.Like) ∷ (k.Word w.Not) ∷ (k.Word w.Notnull) ∷ (k.Word w.Or) ∷ k.Sign ∷ k.Times ∷ k.Power ∷ k.Compare ∷ k.Other ∷ (k.Mark m.OpenParen) ∷ (k.Mark m.OpenBracket) ∷ (k.Mark m.DoubleColon) ∷ []
inner_list l.Arms = k.String ∷ k.Precision ∷ k.Varying ∷ k.With ∷ k.Without ∷ (k.Word w.And) ∷ (k.Word w.Between) ∷ (k.Word w.Ilike) ∷ (k.Word w.In) ∷ (k.Word w.Is) ∷ (k.Word w.Isnull) ∷ (k.Word w.Like) ∷ (k.Word w.Not) ∷ (k.Word w.Notnull) ∷ (k.Word w.Or) ∷ k.Sign ∷ k.Times ∷ k.Power ∷ k.Compare ∷ k.Other ∷ (k.Mark m.OpenParen) ∷ (k.Mark m.OpenBracket) ∷ (k.Mark m.DoubleColon) ∷ []
inner_list l.Full = k.Precision ∷ k.Varying ∷ k.With ∷ k.Without ∷ (k.Mark m.OpenParen) ∷ []
inner_list l.Basic = k.Precision ∷ k.Varying ∷ k.With ∷ k.Without ∷ (k.Mark m.OpenParen) ∷ []
inner_list l.Typename = k.Precision ∷ k.Varying ∷ k.With ∷ k.Without ∷ []

unfoldable pub inner : Level → Kind → Bool
inner m a = among a (inner_list m)

unfoldable pub goes : Level → Kind → Bool
goes m a = inner m a || any_opens (tails m true) a || any_opens (tails m false) a

abbrev pub goes_one : Sym → Kind → Bool
goes_one (Tok b) a = false
goes_one (Lev m) a = goes m a

abbrev pub goes_all : List Sym → Kind → Bool
goes_all [] a = false
goes_all (x ∷ []) a = goes_one x a
goes_all (x ∷ y ∷ ss) a = goes_all (y ∷ ss) a

abbrev pub clear : List Sym → Bool
clear [] = true
clear (x ∷ []) = true
clear (x ∷ y ∷ ss) = every (λ a. not (goes_one x a && opens y a)) && clear (y ∷ ss)

abbrev pub height : Sym → ℕ
height (Tok b) = 0
height (Lev m) = suc (rank m)

abbrev pub head : List Sym → ℕ
head [] = 0
head (x ∷ ss) = height x

rank_small : (m : Level) → suc (rank m) ≤ 15
rank_small m = grind arith

pub head_small : (ss : List Sym) → head ss ≤ 15
head_small [] = omega arith
head_small (Tok b ∷ ss) = omega arith
head_small (Lev m ∷ ss) = rank_small m

-- the lines of a trie
abbrev mutual
  pub Path : {A : Type 0} → Node A → List Sym → A → Type 0
  Path (node d es) [] x = d ≡ Some x
  Path (node d es) (y ∷ ss) x = PathE es y ss x

  pub PathE : {A : Type 0} → Edges A → Sym → List Sym → A → Type 0
  PathE stop y ss x = ⊥
  PathE (edge z n es) y ss x = ((z ≡ y) × Path n ss x) ⊎ PathE es y ss x

-- no two edges of a node open alike, and what opens one behind a whole line goes on with the level
abbrev done_ok : {A : Type 0} → (Kind → Bool) → Option A → Edges A → Bool
done_ok inside None es = true
done_ok inside (Some x) es = every (λ a. implies (any_opens es a) (inside a))

abbrev mutual
  pub apart : {A : Type 0} → (Kind → Bool) → Node A → Bool
  apart inside (node d es) = done_ok inside d es && apart_edges inside es

  pub apart_edges : {A : Type 0} → (Kind → Bool) → Edges A → Bool
  apart_edges inside stop = true
  apart_edges inside (edge y n es) = every (λ a. not (opens y a && any_opens es a)) && apart inside n && apart_edges inside es

pub trie_path : (x : Start) → Path (trie (level x)) (parts x) x
trie_path s.selects = inr (inr (inr (inr (inl (refl, refl)))))
trie_path s.values = inl (refl, inl (refl, refl))
trie_path s.store = inr (inl (refl, inl (refl, inl (refl, inl (refl, refl)))))
trie_path s.describe = inr (inr (inl (refl, inl (refl, refl))))
trie_path s.explain = inr (inr (inr (inl (refl, inr (inl (refl, refl))))))
trie_path s.explain_analyze = inr (inr (inr (inl (refl, inl (refl, inl (refl, refl))))))
trie_path s.select = inl (refl, inl (refl, refl))
trie_path s.first_item = inl (refl, refl)
trie_path s.item = inl (refl, refl)
trie_path s.item_as = inl (refl, inl (refl, inl (refl, refl)))
trie_path s.first_row = inl (refl, inl (refl, inl (refl, refl)))
trie_path s.first_shown = inl (refl, refl)
trie_path s.one_or = inl (refl, refl)
trie_path s.one_and = inl (refl, refl)
trie_path s.not_free = inr (inl (refl, refl))
trie_path s.not = inl (refl, inl (refl, refl))
trie_path s.test_free = inl (refl, refl)
trie_path s.is_truth = inl (refl, inl (refl, inr (inl (refl, refl))))
trie_path s.is_not_truth = inl (refl, inl (refl, inl (refl, inl (refl, refl))))
trie_path s.isnull = inl (refl, inr (inl (refl, refl)))
trie_path s.notnull = inl (refl, inr (inr (inl (refl, refl))))
trie_path s.is_distinct = inl (refl, inl (refl, inr (inr (inl (refl, inl (refl, inl (refl, refl)))))))
trie_path s.is_not_distinct = inl (refl, inl (refl, inl (refl, inr (inl (refl, inl (refl, inl (refl, refl)))))))
trie_path s.compare_free = inl (refl, refl)
trie_path s.compared = inl (refl, inl (refl, inl (refl, refl)))
trie_path s.range_free = inl (refl, refl)
trie_path s.between = inl (refl, inr (inl (refl, inl (refl, inl (refl, inl (refl, refl))))))
trie_path s.not_between = inl (refl, inl (refl, inl (refl, inl (refl, inl (refl, inl (refl, refl))))))
trie_path s.within = inl (refl, inr (inr (inl (refl, inl (refl, inl (refl, inl (refl, refl)))))))
trie_path s.not_within = inl (refl, inl (refl, inr (inl (refl, inl (refl, inl (refl, inl (refl, refl)))))))
trie_path s.like = inl (refl, inr (inr (inr (inl (refl, inl (refl, refl))))))
trie_path s.not_like = inl (refl, inl (refl, inr (inr (inl (refl, inl (refl, refl))))))
trie_path s.other_free = inr (inl (refl, refl))
trie_path s.other_prefix = inl (refl, refl)
trie_path s.prefix = inl (refl, inr (inl (refl, refl)))
trie_path s.prefix_prefix = inl (refl, inl (refl, refl))
trie_path s.one_sum = inl (refl, refl)
trie_path s.one_product = inl (refl, refl)
trie_path s.one_power = inl (refl, refl)
trie_path s.sign_free = inr (inl (refl, refl))
trie_path s.signed = inl (refl, inl (refl, refl))
trie_path s.operand = inl (refl, refl)
trie_path s.constant = inl (refl, refl)
trie_path s.column = inr (inl (refl, refl))
trie_path s.typed_constant = inr (inl (refl, inl (refl, refl)))
trie_path s.called_empty = inr (inl (refl, inr (inl (refl, inl (refl, refl)))))
trie_path s.called = inr (inl (refl, inr (inl (refl, inr (inl (refl, inl (refl, refl)))))))
trie_path s.paren = inr (inr (inl (refl, inl (refl, inl (refl, refl)))))
trie_path s.cast_as = inr (inr (inr (inl (refl, inl (refl, inl (refl, inl (refl, inl (refl, inl (refl, refl)))))))))
trie_path s.cases = inr (inr (inr (inr (inl (refl, inl (refl, inr (inl (refl, refl))))))))
trie_path s.cases_else = inr (inr (inr (inr (inl (refl, inl (refl, inl (refl, inl (refl, inl (refl, refl)))))))))
trie_path s.cases_of = inr (inr (inr (inr (inl (refl, inr (inl (refl, inl (refl, inr (inl (refl, refl))))))))))
trie_path s.cases_of_else = inr (inr (inr (inr (inl (refl, inr (inl (refl, inl (refl, inl (refl, inl (refl, inl (refl, refl)))))))))))
trie_path s.selection = inr (inr (inr (inr (inr (inl (refl, inl (refl, inl (refl, inl (refl, refl)))))))))
trie_path s.nullif = inr (inr (inr (inr (inr (inr (inl (refl, inl (refl, inl (refl, inl (refl, inl (refl, inl (refl, refl))))))))))))
trie_path s.array_empty = inr (inr (inr (inr (inr (inr (inr (inl (refl, inl (refl, inl (refl, refl))))))))))
trie_path s.array = inr (inr (inr (inr (inr (inr (inr (inl (refl, inl (refl, inr (inl (refl, inl (refl, refl))))))))))))
trie_path s.position = inr (inr (inr (inr (inr (inr (inr (inr (inl (refl, inl (refl, inl (refl, inl (refl, inl (refl, inl (refl, refl))))))))))))))
trie_path s.substring_one = inr (inr (inr (inr (inr (inr (inr (inr (inr (inl (refl, inl (refl, inl (refl, inr (inr (inr (inl (refl, refl))))))))))))))))
trie_path s.substring_more = inr (inr (inr (inr (inr (inr (inr (inr (inr (inl (refl, inl (refl, inl (refl, inl (refl, inl (refl, inl (refl, refl)))))))))))))))
trie_path s.substring_from = inr (inr (inr (inr (inr (inr (inr (inr (inr (inl (refl, inl (refl, inl (refl, inr (inl (refl, inl (refl, inr (inl (refl, refl)))))))))))))))))
trie_path s.substring_from_for = inr (inr (inr (inr (inr (inr (inr (inr (inr (inl (refl, inl (refl, inl (refl, inr (inl (refl, inl (refl, inl (refl, inl (refl, inl (refl, refl))))))))))))))))))
trie_path s.substring_for = inr (inr (inr (inr (inr (inr (inr (inr (inr (inl (refl, inl (refl, inl (refl, inr (inr (inl (refl, inl (refl, inl (refl, refl)))))))))))))))))
trie_path s.trim_from = inr (inr (inr (inr (inr (inr (inr (inr (inr (inr (inl (refl, inl (refl, inr (inl (refl, inl (refl, inl (refl, refl))))))))))))))))
trie_path s.trim_set_from = inr (inr (inr (inr (inr (inr (inr (inr (inr (inr (inl (refl, inl (refl, inr (inr (inl (refl, inl (refl, inl (refl, inl (refl, refl))))))))))))))))))
trie_path s.trim_side_from = inr (inr (inr (inr (inr (inr (inr (inr (inr (inr (inl (refl, inl (refl, inl (refl, inl (refl, inl (refl, inl (refl, refl))))))))))))))))
trie_path s.trim_side_set_from = inr (inr (inr (inr (inr (inr (inr (inr (inr (inr (inl (refl, inl (refl, inl (refl, inr (inl (refl, inl (refl, inl (refl, inl (refl, refl))))))))))))))))))
trie_path s.trim = inr (inr (inr (inr (inr (inr (inr (inr (inr (inr (inl (refl, inl (refl, inr (inr (inl (refl, inr (inr (inl (refl, refl))))))))))))))))))
trie_path s.trim_set = inr (inr (inr (inr (inr (inr (inr (inr (inr (inr (inl (refl, inl (refl, inr (inr (inl (refl, inr (inl (refl, inl (refl, inl (refl, refl)))))))))))))))))))
trie_path s.trim_side = inr (inr (inr (inr (inr (inr (inr (inr (inr (inr (inl (refl, inl (refl, inl (refl, inr (inl (refl, inr (inr (inl (refl, refl))))))))))))))))))
trie_path s.trim_side_set = inr (inr (inr (inr (inr (inr (inr (inr (inr (inr (inl (refl, inl (refl, inl (refl, inr (inl (refl, inr (inl (refl, inl (refl, inl (refl, refl)))))))))))))))))))
trie_path s.extract = inr (inr (inr (inr (inr (inr (inr (inr (inr (inr (inr (inl (refl, inl (refl, inl (refl, inl (refl, inl (refl, inl (refl, refl)))))))))))))))))
trie_path s.one_arg = inr (inl (refl, refl))
trie_path s.variadic = inl (refl, inl (refl, refl))
trie_path s.first_arm = inl (refl, inl (refl, inl (refl, inl (refl, refl))))
trie_path s.full_basic = inl (refl, refl)
trie_path s.basic = inl (refl, refl)
trie_path s.basic_sized = inl (refl, inl (refl, inl (refl, inr (inl (refl, refl)))))
trie_path s.basic_scaled = inl (refl, inl (refl, inl (refl, inl (refl, inl (refl, inl (refl, refl))))))
trie_path s.plain_type = inl (refl, refl)
trie_path s.double_type = inr (inl (refl, refl))
trie_path s.double_precision = inr (inl (refl, inl (refl, refl)))
trie_path s.character_type = inr (inr (inl (refl, refl)))
trie_path s.character_varying = inr (inr (inl (refl, inl (refl, refl))))
trie_path s.moment_type = inr (inr (inr (inl (refl, refl))))
trie_path s.moment_zoned = inr (inr (inr (inl (refl, inl (refl, inl (refl, inl (refl, refl)))))))

pub tail_path : (x : Tail) (b : Bool) → takes x b ≡ true → PathE (tails (on x) b) (Tok (lead x)) (rest x) x
tail_path c.union b e = inl (refl, inl (refl, inl (refl, inl (refl, refl))))
tail_path c.next_item b e = inl (refl, inl (refl, refl))
tail_path c.next_row b e = inl (refl, inl (refl, inl (refl, inl (refl, refl))))
tail_path c.next_shown b e = inl (refl, inl (refl, refl))
tail_path c.or b e = inl (refl, inl (refl, refl))
tail_path c.and b e = inl (refl, inl (refl, refl))
tail_path c.other_then b e = inl (refl, inr (inl (refl, refl)))
tail_path c.other_then_prefix b e = inl (refl, inl (refl, refl))
tail_path c.added b e = inl (refl, inl (refl, refl))
tail_path c.multiplied b e = inl (refl, inl (refl, refl))
tail_path c.raised b e = inl (refl, inl (refl, refl))
tail_path c.cast true e = inl (refl, inl (refl, refl))
tail_path c.cast false e = inl (refl, inl (refl, refl))
tail_path c.empty_brackets true e = inr (inl (refl, inl (refl, refl)))
tail_path c.empty_brackets false e = absurd cc
tail_path c.brackets true e = inr (inl (refl, inr (inl (refl, inl (refl, refl)))))
tail_path c.brackets false e = inr (inl (refl, inl (refl, inl (refl, refl))))
tail_path c.next_one true e = inl (refl, inr (inl (refl, refl)))
tail_path c.next_one false e = absurd cc
tail_path c.next_variadic true e = inl (refl, inl (refl, inl (refl, refl)))
tail_path c.next_variadic false e = absurd cc
tail_path c.next_arm b e = inl (refl, inl (refl, inl (refl, inl (refl, refl))))
tail_path c.full_pair b e = inl (refl, inr (inl (refl, refl)))
tail_path c.full_sized_pair b e = inl (refl, inl (refl, inl (refl, refl)))

pub trie_apart : (m : Level) → apart (inner m) (trie m) ≡ true
unfolding first inner
trie_apart l.Statement = refl
trie_apart l.Selects = refl
trie_apart l.Items = refl
trie_apart l.Item = refl
trie_apart l.Rows = refl
trie_apart l.Shown = refl
trie_apart l.E0 = refl
trie_apart l.E1 = refl
trie_apart l.E2 = refl
trie_apart l.E3 = refl
trie_apart l.E4 = refl
trie_apart l.E5 = refl
trie_apart l.E6 = refl
trie_apart l.P = refl
trie_apart l.E7 = refl
trie_apart l.E8 = refl
trie_apart l.E9 = refl
trie_apart l.E10 = refl
trie_apart l.E11 = refl
trie_apart l.E12 = refl
trie_apart l.Args = refl
trie_apart l.Arms = refl
trie_apart l.Full = refl
trie_apart l.Basic = refl
trie_apart l.Typename = refl

pub tails_apart : (m : Level) (b : Bool) → apart_edges (inner m) (tails m b) ≡ true
unfolding first inner
tails_apart l.Statement b = refl
tails_apart l.Selects b = refl
tails_apart l.Items b = refl
tails_apart l.Item b = refl
tails_apart l.Rows b = refl
tails_apart l.Shown b = refl
tails_apart l.E0 b = refl
tails_apart l.E1 b = refl
tails_apart l.E2 b = refl
tails_apart l.E3 b = refl
tails_apart l.E4 b = refl
tails_apart l.E5 b = refl
tails_apart l.E6 b = refl
tails_apart l.P b = refl
tails_apart l.E7 b = refl
tails_apart l.E8 b = refl
tails_apart l.E9 b = refl
tails_apart l.E10 b = refl
tails_apart l.E11 true = refl
tails_apart l.E11 false = refl
tails_apart l.E12 b = refl
tails_apart l.Args true = refl
tails_apart l.Args false = refl
tails_apart l.Arms b = refl
tails_apart l.Full b = refl
tails_apart l.Basic b = refl
tails_apart l.Typename b = refl

abbrev firsts : List Sym → Kind → Bool
firsts [] a = false
firsts (x ∷ ss) a = opens x a

begins_ok : (x : Start) → every (λ a. implies (firsts (parts x) a) (first (level x) a)) ≡ true
unfolding first
begins_ok s.selects = refl
begins_ok s.values = refl
begins_ok s.store = refl
begins_ok s.describe = refl
begins_ok s.explain = refl
begins_ok s.explain_analyze = refl
begins_ok s.select = refl
begins_ok s.first_item = refl
begins_ok s.item = refl
begins_ok s.item_as = refl
begins_ok s.first_row = refl
begins_ok s.first_shown = refl
begins_ok s.one_or = refl
begins_ok s.one_and = refl
begins_ok s.not_free = refl
begins_ok s.not = refl
begins_ok s.test_free = refl
begins_ok s.is_truth = refl
begins_ok s.is_not_truth = refl
begins_ok s.isnull = refl
begins_ok s.notnull = refl
begins_ok s.is_distinct = refl
begins_ok s.is_not_distinct = refl
begins_ok s.compare_free = refl
begins_ok s.compared = refl
begins_ok s.range_free = refl
begins_ok s.between = refl
begins_ok s.not_between = refl
begins_ok s.within = refl
begins_ok s.not_within = refl
begins_ok s.like = refl
begins_ok s.not_like = refl
begins_ok s.other_free = refl
begins_ok s.other_prefix = refl
begins_ok s.prefix = refl
begins_ok s.prefix_prefix = refl
begins_ok s.one_sum = refl
begins_ok s.one_product = refl
begins_ok s.one_power = refl
begins_ok s.sign_free = refl
begins_ok s.signed = refl
begins_ok s.operand = refl
begins_ok s.constant = refl
begins_ok s.column = refl
begins_ok s.typed_constant = refl
begins_ok s.called_empty = refl
begins_ok s.called = refl
begins_ok s.paren = refl
begins_ok s.cast_as = refl
begins_ok s.cases = refl
begins_ok s.cases_else = refl
begins_ok s.cases_of = refl
begins_ok s.cases_of_else = refl
begins_ok s.selection = refl
begins_ok s.nullif = refl
begins_ok s.array_empty = refl
begins_ok s.array = refl
begins_ok s.position = refl
begins_ok s.substring_one = refl
begins_ok s.substring_more = refl
begins_ok s.substring_from = refl
begins_ok s.substring_from_for = refl
begins_ok s.substring_for = refl
begins_ok s.trim_from = refl
begins_ok s.trim_set_from = refl
begins_ok s.trim_side_from = refl
begins_ok s.trim_side_set_from = refl
begins_ok s.trim = refl
begins_ok s.trim_set = refl
begins_ok s.trim_side = refl
begins_ok s.trim_side_set = refl
begins_ok s.extract = refl
begins_ok s.one_arg = refl
begins_ok s.variadic = refl
begins_ok s.first_arm = refl
begins_ok s.full_basic = refl
begins_ok s.basic = refl
begins_ok s.basic_sized = refl
begins_ok s.basic_scaled = refl
begins_ok s.plain_type = refl
begins_ok s.double_type = refl
begins_ok s.double_precision = refl
begins_ok s.character_type = refl
begins_ok s.character_varying = refl
begins_ok s.moment_type = refl
begins_ok s.moment_zoned = refl

abbrev start_ends : Start → Bool
start_ends x = every (λ a. implies (goes_all (parts x) a) (inner (level x) a)) && clear (parts x) && nat_le (head (parts x)) (rank (level x))

abbrev tail_ends : Tail → Bool
tail_ends x = every (λ a. implies (goes_all (rest x) a) (inner (on x) a)) && clear (rest x) && every (λ a. implies (has (lead x) a) (not (inner (on x) a)))

start_ends_ok : (x : Start) → start_ends x ≡ true
unfolding first inner goes
start_ends_ok s.selects = refl
start_ends_ok s.values = refl
start_ends_ok s.store = refl
start_ends_ok s.describe = refl
start_ends_ok s.explain = refl
start_ends_ok s.explain_analyze = refl
start_ends_ok s.select = refl
start_ends_ok s.first_item = refl
start_ends_ok s.item = refl
start_ends_ok s.item_as = refl
start_ends_ok s.first_row = refl
start_ends_ok s.first_shown = refl
start_ends_ok s.one_or = refl
start_ends_ok s.one_and = refl
start_ends_ok s.not_free = refl
start_ends_ok s.not = refl
start_ends_ok s.test_free = refl
start_ends_ok s.is_truth = refl
start_ends_ok s.is_not_truth = refl
start_ends_ok s.isnull = refl
start_ends_ok s.notnull = refl
start_ends_ok s.is_distinct = refl
start_ends_ok s.is_not_distinct = refl
start_ends_ok s.compare_free = refl
start_ends_ok s.compared = refl
start_ends_ok s.range_free = refl
start_ends_ok s.between = refl
start_ends_ok s.not_between = refl
start_ends_ok s.within = refl
start_ends_ok s.not_within = refl
start_ends_ok s.like = refl
start_ends_ok s.not_like = refl
start_ends_ok s.other_free = refl
start_ends_ok s.other_prefix = refl
start_ends_ok s.prefix = refl
start_ends_ok s.prefix_prefix = refl
start_ends_ok s.one_sum = refl
start_ends_ok s.one_product = refl
start_ends_ok s.one_power = refl
start_ends_ok s.sign_free = refl
start_ends_ok s.signed = refl
start_ends_ok s.operand = refl
start_ends_ok s.constant = refl
start_ends_ok s.column = refl
start_ends_ok s.typed_constant = refl
start_ends_ok s.called_empty = refl
start_ends_ok s.called = refl
start_ends_ok s.paren = refl
start_ends_ok s.cast_as = refl
start_ends_ok s.cases = refl
start_ends_ok s.cases_else = refl
start_ends_ok s.cases_of = refl
start_ends_ok s.cases_of_else = refl
start_ends_ok s.selection = refl
start_ends_ok s.nullif = refl
start_ends_ok s.array_empty = refl
start_ends_ok s.array = refl
start_ends_ok s.position = refl
start_ends_ok s.substring_one = refl
start_ends_ok s.substring_more = refl
start_ends_ok s.substring_from = refl
start_ends_ok s.substring_from_for = refl
start_ends_ok s.substring_for = refl
start_ends_ok s.trim_from = refl
start_ends_ok s.trim_set_from = refl
start_ends_ok s.trim_side_from = refl
start_ends_ok s.trim_side_set_from = refl
start_ends_ok s.trim = refl
start_ends_ok s.trim_set = refl
start_ends_ok s.trim_side = refl
start_ends_ok s.trim_side_set = refl
start_ends_ok s.extract = refl
start_ends_ok s.one_arg = refl
start_ends_ok s.variadic = refl
start_ends_ok s.first_arm = refl
start_ends_ok s.full_basic = refl
start_ends_ok s.basic = refl
start_ends_ok s.basic_sized = refl
start_ends_ok s.basic_scaled = refl
start_ends_ok s.plain_type = refl
start_ends_ok s.double_type = refl
start_ends_ok s.double_precision = refl
start_ends_ok s.character_type = refl
start_ends_ok s.character_varying = refl
start_ends_ok s.moment_type = refl
start_ends_ok s.moment_zoned = refl

tail_ends_ok : (x : Tail) → tail_ends x ≡ true
unfolding first inner goes
tail_ends_ok c.union = refl
tail_ends_ok c.next_item = refl
tail_ends_ok c.next_row = refl
tail_ends_ok c.next_shown = refl
tail_ends_ok c.or = refl
tail_ends_ok c.and = refl
tail_ends_ok c.other_then = refl
tail_ends_ok c.other_then_prefix = refl
tail_ends_ok c.added = refl
tail_ends_ok c.multiplied = refl
tail_ends_ok c.raised = refl
tail_ends_ok c.cast = refl
tail_ends_ok c.empty_brackets = refl
tail_ends_ok c.brackets = refl
tail_ends_ok c.next_one = refl
tail_ends_ok c.next_variadic = refl
tail_ends_ok c.next_arm = refl
tail_ends_ok c.full_pair = refl
tail_ends_ok c.full_sized_pair = refl

-- ---- what the tests say

pub first_of_line : (x : Start) (y : Sym) (ss : List Sym) (a : Kind) → parts x ≡ y ∷ ss → opens y a ≡ true → first (level x) a ≡ true
first_of_line x y ss a e h =
    implied (firsts (parts x) a) (first (level x) a) (every_at (λ b. implies (firsts (parts x) b) (first (level x) b)) (begins_ok x) a)
    (ap (λ z. firsts z a) e ∙ h)

pub start_quiet : (x : Start) (a : Kind) → inner (level x) a ≡ false → goes_all (parts x) a ≡ false
start_quiet x a q = implied_false (goes_all (parts x) a) (inner (level x) a)
    (every_at (λ b. implies (goes_all (parts x) b) (inner (level x) b)) (and_parts _ _ (and_parts _ _ (start_ends_ok x)).0).0 a) q

pub start_clear : (x : Start) → clear (parts x) ≡ true
start_clear x = (and_parts _ _ (and_parts _ _ (start_ends_ok x)).0).1

at_most : (m n : ℕ) → nat_le m n ≡ true → m ≤ n
at_most m n e = grind arith

pub start_head : (x : Start) → head (parts x) ≤ rank (level x)
start_head x = at_most (head (parts x)) (rank (level x)) (and_parts _ _ (start_ends_ok x)).1

not_both : (a b : Bool) → not (a && b) ≡ true → b ≡ true → a ≡ false
not_both a b e h = grind arith

pub clear_at : (x y : Sym) (ss : List Sym) (a : Kind) → clear (x ∷ y ∷ ss) ≡ true → opens y a ≡ true → goes_one x a ≡ false
clear_at x y ss a e h = not_both (goes_one x a) (opens y a) (every_at (λ b. not (goes_one x b && opens y b)) (and_parts _ _ e).0 a) h

pub clear_rest : (x : Sym) (ss : List Sym) → clear (x ∷ ss) ≡ true → clear ss ≡ true
clear_rest x [] e = refl
clear_rest x (y ∷ ss) e = (and_parts _ _ e).1

pub goes_inner : (m : Level) (a : Kind) → goes m a ≡ false → inner m a ≡ false
unfolding goes
goes_inner m a e = (or_parts _ _ (or_parts _ _ e).0).0

pub goes_tail : (m : Level) (b : Bool) (a : Kind) → goes m a ≡ false → any_opens (tails m b) a ≡ false
unfolding goes
goes_tail m true a e = (or_parts _ _ (or_parts _ _ e).0).1
goes_tail m false a e = (or_parts _ _ e).1

or_left : (a b : Bool) → a ≡ true → a || b ≡ true
or_left a b e = grind arith

or_right : (a b : Bool) → b ≡ true → a || b ≡ true
or_right a b e = grind arith

-- a line's first symbol opens its node
pub path_opens : {A : Type 0} (es : Edges A) (y : Sym) (ss : List Sym) (x : A) (a : Kind) → PathE es y ss x → opens y a ≡ true → any_opens es a ≡ true
path_opens stop y ss x a p h = absurd p
path_opens (edge z n es) y ss x a (inl (e, p)) h = or_left (opens z a) (any_opens es a) (ap (λ w. opens w a) e ∙ h)
path_opens (edge z n es) y ss x a (inr p) h = or_right (opens z a) (any_opens es a) (path_opens es y ss x a p h)

pub apart_here : {A : Type 0} (inside : Kind → Bool) (z : Sym) (n : Node A) (es : Edges A) (a : Kind) → apart_edges inside (edge z n es) ≡ true → any_opens es a ≡ true → opens z a ≡ false
apart_here inside z n es a e h = not_both (opens z a) (any_opens es a) (every_at (λ b. not (opens z b && any_opens es b)) (and_parts _ _ (and_parts _ _ e).0).0 a) h

pub apart_below : {A : Type 0} (inside : Kind → Bool) (z : Sym) (n : Node A) (es : Edges A) → apart_edges inside (edge z n es) ≡ true → apart inside n ≡ true
apart_below inside z n es e = (and_parts _ _ (and_parts _ _ e).0).1

pub apart_more : {A : Type 0} (inside : Kind → Bool) (z : Sym) (n : Node A) (es : Edges A) → apart_edges inside (edge z n es) ≡ true → apart_edges inside es ≡ true
apart_more inside z n es e = (and_parts _ _ e).1

pub apart_edges_of : {A : Type 0} (inside : Kind → Bool) (d : Option A) (es : Edges A) → apart inside (node d es) ≡ true → apart_edges inside es ≡ true
apart_edges_of inside d es e = (and_parts _ _ e).1

pub done_quiet : {A : Type 0} (inside : Kind → Bool) (d : Option A) (x : A) (es : Edges A) (a : Kind) → apart inside (node d es) ≡ true → d ≡ Some x → inside a ≡ false → any_opens es a ≡ false
done_quiet inside None x es a e h q = absurd cc
done_quiet inside (Some z) x es a e h q = implied_false (any_opens es a) (inside a) (every_at (λ b. implies (any_opens es b) (inside b)) (and_parts _ _ e).0 a) q

no : (b : Bool) → not b ≡ true → b ≡ false
no b e = grind arith

pub tail_quiet : (x : Tail) (a : Kind) → inner (on x) a ≡ false → goes_all (rest x) a ≡ false
tail_quiet x a q = implied_false (goes_all (rest x) a) (inner (on x) a)
    (every_at (λ b. implies (goes_all (rest x) b) (inner (on x) b)) (and_parts _ _ (and_parts _ _ (tail_ends_ok x)).0).0 a) q

pub tail_clear : (x : Tail) → clear (rest x) ≡ true
tail_clear x = (and_parts _ _ (and_parts _ _ (tail_ends_ok x)).0).1

pub tail_lead : (x : Tail) (a : Kind) → has (lead x) a ≡ true → inner (on x) a ≡ false
tail_lead x a h = no _ (implied (has (lead x) a) (not (inner (on x) a)) (every_at (λ b. implies (has (lead x) b) (not (inner (on x) b))) (and_parts _ _ (tail_ends_ok x)).1 a) h)

-- a token by which the line goes on opens its level's tails
pub tail_opens : (x : Tail) (b : Bool) (a : Kind) → takes x b ≡ true → has (lead x) a ≡ true → any_opens (tails (on x) b) a ≡ true
tail_opens x b a e h = path_opens (tails (on x) b) (Tok (lead x)) (rest x) x a (tail_path x b e) h

pub lead_clear : (c : Class) (ss : List Sym) → clear ss ≡ true → clear (Tok c ∷ ss) ≡ true
lead_clear c [] e = refl
lead_clear c (y ∷ ss) e = e

pub lead_goes : (c : Class) (ss : List Sym) (a : Kind) → goes_all ss a ≡ false → goes_all (Tok c ∷ ss) a ≡ false
lead_goes c [] a e = refl
lead_goes c (y ∷ ss) a e = e

pub some_part : (x : Start) → parts x ≡ [] → ⊥
some_part s.selects e = cc
some_part s.values e = cc
some_part s.store e = cc
some_part s.describe e = cc
some_part s.explain e = cc
some_part s.explain_analyze e = cc
some_part s.select e = cc
some_part s.first_item e = cc
some_part s.item e = cc
some_part s.item_as e = cc
some_part s.first_row e = cc
some_part s.first_shown e = cc
some_part s.one_or e = cc
some_part s.one_and e = cc
some_part s.not_free e = cc
some_part s.not e = cc
some_part s.test_free e = cc
some_part s.is_truth e = cc
some_part s.is_not_truth e = cc
some_part s.isnull e = cc
some_part s.notnull e = cc
some_part s.is_distinct e = cc
some_part s.is_not_distinct e = cc
some_part s.compare_free e = cc
some_part s.compared e = cc
some_part s.range_free e = cc
some_part s.between e = cc
some_part s.not_between e = cc
some_part s.within e = cc
some_part s.not_within e = cc
some_part s.like e = cc
some_part s.not_like e = cc
some_part s.other_free e = cc
some_part s.other_prefix e = cc
some_part s.prefix e = cc
some_part s.prefix_prefix e = cc
some_part s.one_sum e = cc
some_part s.one_product e = cc
some_part s.one_power e = cc
some_part s.sign_free e = cc
some_part s.signed e = cc
some_part s.operand e = cc
some_part s.constant e = cc
some_part s.column e = cc
some_part s.typed_constant e = cc
some_part s.called_empty e = cc
some_part s.called e = cc
some_part s.paren e = cc
some_part s.cast_as e = cc
some_part s.cases e = cc
some_part s.cases_else e = cc
some_part s.cases_of e = cc
some_part s.cases_of_else e = cc
some_part s.selection e = cc
some_part s.nullif e = cc
some_part s.array_empty e = cc
some_part s.array e = cc
some_part s.position e = cc
some_part s.substring_one e = cc
some_part s.substring_more e = cc
some_part s.substring_from e = cc
some_part s.substring_from_for e = cc
some_part s.substring_for e = cc
some_part s.trim_from e = cc
some_part s.trim_set_from e = cc
some_part s.trim_side_from e = cc
some_part s.trim_side_set_from e = cc
some_part s.trim e = cc
some_part s.trim_set e = cc
some_part s.trim_side e = cc
some_part s.trim_side_set e = cc
some_part s.extract e = cc
some_part s.one_arg e = cc
some_part s.variadic e = cc
some_part s.first_arm e = cc
some_part s.full_basic e = cc
some_part s.basic e = cc
some_part s.basic_sized e = cc
some_part s.basic_scaled e = cc
some_part s.plain_type e = cc
some_part s.double_type e = cc
some_part s.double_precision e = cc
some_part s.character_type e = cc
some_part s.character_varying e = cc
some_part s.moment_type e = cc
some_part s.moment_zoned e = cc
