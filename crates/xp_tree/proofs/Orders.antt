-- Of stacks of trees, and of the trees just below a node.
use Rattle.std.proofs.Common.{◌≡◌, ◌+◌, ◌<◌, List, [], ◌∷◌, ◌++◌, map, ap, sym, ◌∙◌, refl, arith}
use Rattle.std.proofs.lemmas.List.{append_cancel_left, reverse-append}
use Rattle.xp_tree.specs.Term.{Term, Terms, Arms, leaf, one, two, many, case, domain, checked, none, more, no_arm, arm, terms, size_all, size_arms}
use Rattle.xp_tree.specs.inner.Order.{Leads, top_first, list_of, list_of_arms, parts}

pub pushed : {A B : Type 0} (f : A → B) (items : List A) (x : A) → top_first f (items ++ x ∷ []) ≡ f x ∷ top_first f items
pushed f items x = ap (map f) (reverse-append items (x ∷ []))

pub listed : (ts : List Term) → list_of (terms ts) ≡ ts
listed [] = refl
listed (t ∷ ts) = ap (λ rest. t ∷ rest) (listed ts)

all_sizes : (ts : Terms) (rest : List Term) → size_all (terms (list_of ts ++ rest)) ≡ size_all ts + size_all (terms rest)
all_sizes none rest = omega arith
all_sizes (more a ts) rest = omega (arith, all_sizes ts rest)

arms_sizes : (arms : Arms) (rest : List Term) → size_all (terms (list_of_arms arms ++ rest)) ≡ size_arms arms + size_all (terms rest)
arms_sizes no_arm rest = omega arith
arms_sizes (arm c r arms) rest = omega (arith, arms_sizes arms rest)

-- the parts have fewer nodes than the tree
pub parts_smaller : (t : Term) (rest : List Term) → size_all (terms (parts t ++ rest)) < size_all (terms (t ∷ rest))
parts_smaller (leaf l ty) rest = omega arith
parts_smaller (one o a ty) rest = omega arith
parts_smaller (two o a b ty) rest = omega arith
parts_smaller (many o args ty) rest = omega (arith, all_sizes args rest)
parts_smaller (case arms other ty) rest = omega (arith, arms_sizes arms rest)
parts_smaller (domain a row not_null ty) rest = omega arith
parts_smaller (checked a row not_null check ty) rest = omega arith

-- a tree made over its parts stands in their place
pub made_next : (t : Term) (listed start now left : List Term) → Leads (t ∷ listed) start now → now ≡ parts t ++ left → Leads listed start (t ∷ left)
made_next t listed start now left h e = rw (append_cancel_left (parts t) left h.0 (sym e ∙ h.1)) h.2
