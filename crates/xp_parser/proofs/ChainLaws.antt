-- What is read of operators that group from the left.
use Rattle.std.proofs.Common.{◌≡◌, ◌≤◌, Bool, true, false, ◌||◌, List, [], ◌∷◌, length, Option, Some, None, Ok, Err, refl, sym, ap, subst, ◌∙◌, if◌then◌else◌}
use Rattle.std.proofs.Math.Bool.{or-false}
use Rattle.xp_token.specs.declared.token.Token.{Token}
use Rattle.xp_grammar.specs.declared.kind.Kind.{Kind}
use Rattle.xp_grammar.specs.declared.kind.Kind.TheVariants as k
use Rattle.xp_grammar.specs.declared.kind.Class.TheVariants.{Only}
use Rattle.xp_grammar.specs.declared.ast.Ast.{Ast}
use Rattle.xp_grammar.specs.Kinds.{kind, same, ahead}
use Rattle.xp_grammar.specs.Table.{Value, Word, Tree, other_of, prefix_of}
use Rattle.xp_grammar.specs.Table.{Level as l}
use Rattle.xp_grammar.specs.inner.Machine.{Outcome, Parser, and_then, ◌>>=◌, pure, expect, eat, taken, after, starting, first, onward, parse, more}
use Rattle.xp_grammar.proofs.Fronts.{left, if_left}
use Rattle.xp_grammar.proofs.Turns.{parse_left, parse_less}
use Rattle.xp_grammar.proofs.Straight.{reach, again, parse_straight, more_straight}
use Rattle.xp_parser.specs.declared.chains.Chain.{Chain}
use Rattle.xp_parser.specs.declared.chains.Chain.TheVariants as chains
use Rattle.xp_parser.specs.declared.grammar.Nested.{Nested}
use Rattle.xp_parser.specs.declared.grammar.Nested.TheVariants as inside
use Rattle.xp_parser.specs.inner.Parts.{chain_level, chain_operator, chain_operand, chain_join, chain_part, nested, right_part, prefix_then}
use Rattle.xp_parser.proofs.Steps.{after_same, expect_same, other_flip}

pub or_is : (ts : List Token) → parse l.E0 ts ≡ (parse l.E1 >>= (λ v. more l.E0 v)) ts
unfolding reach more
or_is ts = parse_straight l.E0 ts

pub and_is : (ts : List Token) → parse l.E1 ts ≡ (parse l.E2 >>= (λ v. more l.E1 v)) ts
unfolding reach more
and_is ts = parse_straight l.E1 ts

pub sum_is : (ts : List Token) → parse l.E7 ts ≡ (parse l.E8 >>= (λ v. more l.E7 v)) ts
unfolding reach more
sum_is ts = parse_straight l.E7 ts

pub product_is : (ts : List Token) → parse l.E8 ts ≡ (parse l.E9 >>= (λ v. more l.E8 v)) ts
unfolding reach more
product_is ts = parse_straight l.E8 ts

pub power_is : (ts : List Token) → parse l.E9 ts ≡ (parse l.E10 >>= (λ v. more l.E9 v)) ts
unfolding reach more
power_is ts = parse_straight l.E9 ts

-- ---- any other operator

right_then : (f : Value → Parser Value) (ts : List Token) → starting l.P (parse l.P >>= f) (parse l.E7 >>= f) ts ≡ (right_part >>= f) ts
unfolding right_part
right_then f ts = by (first l.P (ahead ts)) (parse l.P ts) (parse l.E7 ts)
  where
    by : (b : Bool) (p q : Outcome Value) → ◌≡◌ {A = Outcome Value} (if b then and_then p f else and_then q f) (and_then (if b then p else q) f)
    by true p q = refl
    by false p q = refl

prefix_is : (ts : List Token) → parse l.P ts ≡ (expect (Only k.Other) >>= prefix_then) ts
unfolding reach onward prefix_then
prefix_is ts = parse_straight l.P ts ∙ expect_same (Only k.Other) _ _ ts (λ t r. right_then (λ v. pure (prefix_of (Word t ∷ v ∷ []))) r)

pub right_is : (ts : List Token) → right_part ts ≡ after (Only k.Other) prefix_then (parse l.E7) ts
unfolding right_part first
right_is [] = refl
right_is (t ∷ ts) = by (same (kind t) k.Other || false) (same k.Other (kind t)) (or-false (same (kind t) k.Other) ∙ other_flip (kind t)) (parse l.P (t ∷ ts)) (parse l.E7) (prefix_is (t ∷ ts))
  where
    by : (b c : Bool) → b ≡ c → (p : Outcome Value) (q : Parser Value) → p ≡ and_then (if c then Ok (t, ts) else Err (length (t ∷ ts))) prefix_then
        → (if b then p else q (t ∷ ts)) ≡ and_then (if◌then◌else◌ {A = Outcome (Option Token)} c (Ok (Some t, ts)) (Ok (None, t ∷ ts))) (taken prefix_then q)
    by true true e p q h = h
    by false false e p q h = refl
    by true false e p q h = absurd cc
    by false true e p q h = absurd cc

pub other_is : (ts : List Token) → parse l.E6 ts ≡ (right_part >>= (λ v. more l.E6 v)) ts
unfolding reach more
other_is ts = parse_straight l.E6 ts ∙ right_then (λ v. more l.E6 v) ts

right_left : (ts : List Token) → left (right_part ts) ≤ length ts
unfolding right_part
right_left ts = if_left (first l.P (ahead ts)) _ _ (length ts) (parse_left l.P ts) (parse_left l.E7 ts)

pub right_less : (v : Value) (ts r : List Token) → right_part ts ≡ Ok (v, r) → length r ≤ length ts
right_less v ts r e = subst (λ o. left o ≤ length ts) e (right_left ts)

pub nested_less : (which : Nested) (v : Value) (ts r : List Token) → nested which ts ≡ Ok (v, r) → length r ≤ length ts
nested_less inside.Expression v ts r e = parse_less l.E0 v ts r e
nested_less inside.Conjunction v ts r e = parse_less l.E1 v ts r e
nested_less inside.Negation v ts r e = parse_less l.E2 v ts r e
nested_less inside.Operation v ts r e = parse_less l.E6 v ts r e
nested_less inside.Prefixed v ts r e = right_less v ts r e
nested_less inside.Product v ts r e = parse_less l.E8 v ts r e
nested_less inside.Power v ts r e = parse_less l.E9 v ts r e
nested_less inside.Signed v ts r e = parse_less l.E10 v ts r e

-- ---- operators behind an operand

pub more_chain : (chain : Chain) (a : Ast) (ts : List Token) → more (chain_level chain) (Tree a) ts ≡ chain_part chain (Tree a) ts
unfolding reach again chain_part
more_chain chains.Or a ts = more_straight l.E0 (Tree a) ts
more_chain chains.And a ts = more_straight l.E1 (Tree a) ts
more_chain chains.Other a ts = more_straight l.E6 (Tree a) ts ∙ after_same (Only k.Other) _ _ _ _ ts (λ t r. right_then (λ w. more l.E6 (other_of (Tree a) (Word t ∷ w ∷ []))) r) (λ r. refl)
more_chain chains.Sum a ts = more_straight l.E7 (Tree a) ts
more_chain chains.Product a ts = more_straight l.E8 (Tree a) ts
more_chain chains.Power a ts = more_straight l.E9 (Tree a) ts

-- one more operand
pub chain_turn : (chain : Chain) (operator : Kind) (which : Nested) (a b e : Ast) (t : Token) (whole : Outcome Value) (ts us r : List Token)
    → operator ≡ chain_operator chain → which ≡ chain_operand chain
    → whole ≡ more (chain_level chain) (Tree a) ts → eat (Only operator) ts ≡ Ok (Some t, us) → nested which us ≡ Ok (Tree b, r)
    → chain_join chain (Tree a) (Word t ∷ Tree b ∷ []) ≡ Tree e → whole ≡ more (chain_level chain) (Tree e) r
unfolding chain_part
chain_turn chain operator which a b e t whole ts us r p q same eaten read built =
    same ∙ more_chain chain a ts
    ∙ ap (λ z. and_then z (taken (λ t'. nested (chain_operand chain) >>= (λ w. more (chain_level chain) (chain_join chain (Tree a) (Word t' ∷ w ∷ [])))) (pure (Tree a)))) (ap (λ z. eat (Only z) ts) (sym p) ∙ eaten)
    ∙ ap (λ z. and_then z (λ w. more (chain_level chain) (chain_join chain (Tree a) (Word t ∷ w ∷ [])))) (ap (λ z. nested z us) (sym q) ∙ read)
    ∙ ap (λ z. more (chain_level chain) z r) built
