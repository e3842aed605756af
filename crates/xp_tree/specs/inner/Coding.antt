-- A code of trees: their nodes, children first.
use Rattle.std.specs.Prelude.{◌≡◌, ℕ, Bool, List, [], ◌∷◌, refl}
use Rattle.std.specs.Coded.{Coded, coded_list, code_by}
use Rattle.std.proofs.Common.{ap, ◌∙◌}
use Rattle.xp_base.specs.declared.numbers.RowNo.{RowNo}
use Rattle.xp_value.specs.declared.value.Rep.TheVariants.{Opaque}
use Rattle.xp_tree.specs.declared.parts.NodeType.{NodeType}
use Rattle.xp_tree.specs.Term.{Leaf, One, Two, Many, Term, Terms, Arms, given, leaf, one, two, many, case, domain, checked, none, more, no_arm, arm}

pub data Mark : Type 0 where
  m_leaf : Leaf → NodeType → Mark
  m_one : One → NodeType → Mark
  m_two : Two → NodeType → Mark
  m_many : Many → NodeType → Mark
  m_case : NodeType → Mark
  m_domain : RowNo → Bool → NodeType → Mark
  m_checked : RowNo → Bool → NodeType → Mark
  m_none : Mark
  m_more : Mark
  m_no_arm : Mark
  m_arm : Mark

pub record Stacks : Type 0 where
  pub trees : List Term
  pub lists : List Terms
  pub cases : List Arms

abbrev pub any_tree : Term
any_tree = leaf given (record { no = record { 0 = 0 }; rep = Opaque; element = Opaque })

abbrev pub first : List Term → Term
first [] = any_tree
first (t ∷ ts) = t

abbrev pub behind : List Term → List Term
behind [] = []
behind (t ∷ ts) = ts

abbrev pub first_list : List Terms → Terms
first_list [] = none
first_list (t ∷ ts) = t

abbrev pub rest_lists : List Terms → List Terms
rest_lists [] = []
rest_lists (t ∷ ts) = ts

abbrev pub first_arms : List Arms → Arms
first_arms [] = no_arm
first_arms (t ∷ ts) = t

abbrev pub rest_arms : List Arms → List Arms
rest_arms [] = []
rest_arms (t ∷ ts) = ts

abbrev pub put : Mark → Stacks → Stacks
put (m_leaf l ty) s = record s { trees = leaf l ty ∷ s.trees }
put (m_one o ty) s = record s { trees = one o (first s.trees) ty ∷ behind s.trees }
put (m_two o ty) s = record s { trees = two o (first (behind s.trees)) (first s.trees) ty ∷ behind (behind s.trees) }
put (m_many o ty) s = record { trees = many o (first_list s.lists) ty ∷ s.trees; lists = rest_lists s.lists; cases = s.cases }
put (m_case ty) s = record { trees = case (first_arms s.cases) (first s.trees) ty ∷ behind s.trees; lists = s.lists; cases = rest_arms s.cases }
put (m_domain row not_null ty) s = record s { trees = domain (first s.trees) row not_null ty ∷ behind s.trees }
put (m_checked row not_null ty) s = record s { trees = checked (first (behind s.trees)) row not_null (first s.trees) ty ∷ behind (behind s.trees) }
put m_none s = record s { lists = none ∷ s.lists }
put m_more s = record { trees = behind s.trees; lists = more (first s.trees) (first_list s.lists) ∷ rest_lists s.lists; cases = s.cases }
put m_no_arm s = record s { cases = no_arm ∷ s.cases }
put m_arm s = record { trees = behind (behind s.trees); lists = s.lists; cases = arm (first (behind s.trees)) (first s.trees) (first_arms s.cases) ∷ rest_arms s.cases }

abbrev pub build : List Mark → Stacks → Stacks
build [] s = s
build (m ∷ ms) s = build ms (put m s)

abbrev mutual
  pub marks : Term → List Mark → List Mark
  marks (leaf l ty) ms = m_leaf l ty ∷ ms
  marks (one o a ty) ms = marks a (m_one o ty ∷ ms)
  marks (two o a b ty) ms = marks a (marks b (m_two o ty ∷ ms))
  marks (many o args ty) ms = marks_all args (m_many o ty ∷ ms)
  marks (case arms other ty) ms = marks_arms arms (marks other (m_case ty ∷ ms))
  marks (domain a row not_null ty) ms = marks a (m_domain row not_null ty ∷ ms)
  marks (checked a row not_null check ty) ms = marks a (marks check (m_checked row not_null ty ∷ ms))

  pub marks_all : Terms → List Mark → List Mark
  marks_all none ms = m_none ∷ ms
  marks_all (more a rest) ms = marks_all rest (marks a (m_more ∷ ms))

  pub marks_arms : Arms → List Mark → List Mark
  marks_arms no_arm ms = m_no_arm ∷ ms
  marks_arms (arm c r others) ms = marks_arms others (marks c (marks r (m_arm ∷ ms)))

mutual
  built : (t : Term) (ms : List Mark) (s : Stacks) → build (marks t ms) s ≡ build ms (record s { trees = t ∷ s.trees })
  built (leaf l ty) ms s = refl
  built (one o a ty) ms s = built a (m_one o ty ∷ ms) s
  built (two o a b ty) ms s = built a (marks b (m_two o ty ∷ ms)) s ∙ built b (m_two o ty ∷ ms) (record s { trees = a ∷ s.trees })
  built (many o args ty) ms s = built_all args (m_many o ty ∷ ms) s
  built (case arms other ty) ms s = built_arms arms (marks other (m_case ty ∷ ms)) s ∙ built other (m_case ty ∷ ms) (record s { cases = arms ∷ s.cases })
  built (domain a row not_null ty) ms s = built a (m_domain row not_null ty ∷ ms) s
  built (checked a row not_null check ty) ms s = built a (marks check (m_checked row not_null ty ∷ ms)) s ∙ built check (m_checked row not_null ty ∷ ms) (record s { trees = a ∷ s.trees })

  built_all : (ts : Terms) (ms : List Mark) (s : Stacks) → build (marks_all ts ms) s ≡ build ms (record s { lists = ts ∷ s.lists })
  built_all none ms s = refl
  built_all (more a rest) ms s = built_all rest (marks a (m_more ∷ ms)) s ∙ built a (m_more ∷ ms) (record s { lists = rest ∷ s.lists })

  built_arms : (ts : Arms) (ms : List Mark) (s : Stacks) → build (marks_arms ts ms) s ≡ build ms (record s { cases = ts ∷ s.cases })
  built_arms no_arm ms s = refl
  built_arms (arm c r others) ms s =
      built_arms others (marks c (marks r (m_arm ∷ ms))) s ∙ built c (marks r (m_arm ∷ ms)) (record s { cases = others ∷ s.cases })
      ∙ built r (m_arm ∷ ms) (record { trees = c ∷ s.trees; lists = s.lists; cases = others ∷ s.cases })

abbrev pub empty : Stacks
empty = record { trees = []; lists = []; cases = [] }

pub decoded : (t : Term) → first (build (marks t []) empty).trees ≡ t
decoded t = ap (λ s. first s.trees) (built t [] empty)

abbrev pub term_code : Coded Mark → Coded Term
term_code mark = code_by (List Mark) (coded_list mark) (λ t. marks t []) (λ ms. first (build ms empty).trees) decoded
