-- What is read of signs, casts and subscripts.
use Rattle.std.proofs.Common.{◌≡◌, ℕ, zero, suc, ◌+◌, ◌-◌, ◌≤◌, ◌<◌, ◌==◌, Bool, true, false, ◌&&◌, List, [], ◌∷◌, length, take, Option, Some, None, Ok, Err, refl, sym, ap, subst, ◌∙◌, if◌then◌else◌, arith}
use Rattle.xp_token.specs.declared.token.Token.{Token}
use Rattle.xp_token.specs.declared.token.Mark.TheVariants as mark
use Rattle.xp_grammar.specs.declared.kind.Kind.TheVariants as k
use Rattle.xp_grammar.specs.declared.kind.Class.{Class}
use Rattle.xp_grammar.specs.declared.kind.Class.TheVariants.{Only}
use Rattle.xp_grammar.specs.Kinds.{kind, same, has}
use Rattle.xp_grammar.specs.Table.{Value, Word, Tree, Casted, is_open, cast_of, array_cast, bracketed, one_whole}
use Rattle.xp_grammar.specs.Table.{Level as l}
use Rattle.xp_grammar.specs.inner.Machine.{Outcome, Parser, and_then, ◌>>=◌, pure, expect, eat, taken, after, used, onward, parse, more}
use Rattle.xp_grammar.proofs.Fronts.{left, map_left, then_left}
use Rattle.xp_grammar.proofs.Fix.{expect_left}
use Rattle.xp_grammar.proofs.Turns.{itself, parse_left, parse_takes, expect_left_is}
use Rattle.xp_grammar.proofs.Straight.{reach, again, parse_straight, more_straight}
use Rattle.xp_parser.specs.declared.operands.Operand.{Operand}
use Rattle.xp_parser.specs.declared.operands.Operand.TheVariants as o
use Rattle.xp_parser.specs.inner.Parts.{operand, signed_part, cast_part, lone, index_part, indexed, bracket_part, more_part}
use Rattle.xp_parser.proofs.Steps.{after_same, pure_then, whole_flip}

pub signed_is : (ts : List Token) → parse l.E10 ts ≡ signed_part ts
unfolding reach onward signed_part
signed_is ts = parse_straight l.E10 ts

pub operand_is : (ts : List Token) → parse l.E11 ts ≡ (parse l.E12 >>= (λ v. more l.E11 v)) ts
unfolding reach more
operand_is ts = parse_straight l.E11 ts

-- ---- brackets

equal_true : (m n : ℕ) → m ≡ n → m == n ≡ true
equal_true m n e = grind arith

equal_false : (m n : ℕ) → m < n → n == m ≡ false
equal_false m n e = grind arith

and_is : (a b c : Bool) → a ≡ b → c ≡ true → a ≡ b && c
and_is a b c h e = grind arith

and_none : (a b : Bool) → b ≡ false → false ≡ a && b
and_none a b e = grind arith

-- what was read is one whole number in brackets
lone_is : (a : Token) (ts r' r : List Token) → length r' < length ts → suc (length r) ≡ length r' → one_whole (used (a ∷ ts) r) ≡ lone ts r'
lone_is a [] r' r h e = absurd (omega (arith, h))
lone_is a (n ∷ []) r' r h e = absurd (omega (arith, h, e))
lone_is a (n ∷ b ∷ us) r' r h e =
    let few : length r ≤ length us = omega (arith, h, e) in
    let count : suc (suc (suc (length us))) - length r ≡ suc (suc (suc (length us - length r))) = omega (arith, few) in
    ap (λ z. one_whole (take z (a ∷ n ∷ b ∷ us))) count ∙ by us (length us - length r) (omega (arith, few)) few
  where
    by : (ws : List Token) (j : ℕ) → j + length r ≡ length ws → length r ≤ length ws → one_whole (a ∷ n ∷ b ∷ take j ws) ≡ lone (n ∷ b ∷ ws) r'
    by ws zero q f = and_is (same k.Whole (kind n)) (same (kind n) k.Whole) _ (sym (whole_flip (kind n))) (equal_true (suc (suc (length ws))) (suc (length r')) (omega (arith, q, e)))
    by [] (suc j) q f = absurd (omega (arith, q))
    by (w ∷ ws) (suc j) q f = and_none (same (kind n) k.Whole) _ (equal_false (suc (length r')) (suc (suc (suc (length ws)))) (omega (arith, q, e)))

-- brackets with an index, by the tokens and by their number
index_is : (v : Value) (t : Token) (ts : List Token)
    → and_then (parse l.E0 ts) (λ i r. and_then (expect (Only (k.Mark mark.CloseBracket)) r) (λ w q. more l.E11 (bracketed v (one_whole (used (t ∷ ts) q)) (Word t ∷ i ∷ [])) q))
    ≡ and_then (and_then (index_part ts) (λ p. pure (indexed v t p))) (λ w. more l.E11 w)
unfolding index_part
index_is v t ts = by (parse l.E0 ts) refl
  where
    shut : (i : Value) (r : List Token) → length r < length ts → (o : Outcome Token) → expect (Only (k.Mark mark.CloseBracket)) r ≡ o
        → and_then o (λ w q. more l.E11 (bracketed v (one_whole (used (t ∷ ts) q)) (Word t ∷ i ∷ [])) q)
        ≡ and_then (and_then (and_then o (λ w. pure (i, lone ts r))) (λ p. pure (indexed v t p))) (λ w. more l.E11 w)
    shut i r h (Ok p) e = ap (λ z. more l.E11 (bracketed v z (Word t ∷ i ∷ [])) p.1) (lone_is t ts r p.1 h (expect_left 0 parse parse itself (Only (k.Mark mark.CloseBracket)) r p.1 p.0 e))
    shut i r h (Err n) e = refl

    by : (o : Outcome Value) → parse l.E0 ts ≡ o
        → and_then o (λ i r. and_then (expect (Only (k.Mark mark.CloseBracket)) r) (λ w q. more l.E11 (bracketed v (one_whole (used (t ∷ ts) q)) (Word t ∷ i ∷ [])) q))
        ≡ and_then (and_then (and_then o (λ i r. and_then (expect (Only (k.Mark mark.CloseBracket)) r) (λ w. pure (i, lone ts r)))) (λ p. pure (indexed v t p))) (λ w. more l.E11 w)
    by (Ok p) e = shut p.0 p.1 (parse_takes l.E0 p.0 ts p.1 e) (expect (Only (k.Mark mark.CloseBracket)) p.1) refl
    by (Err n) e = refl

empty_or : (v w : Value) (f : Token → Parser Value) (p q : Parser Value) (ts : List Token) → ((t : Token) (r : List Token) → f t r ≡ more l.E11 w r) → p ts ≡ (q >>= (λ z. more l.E11 z)) ts
    → after (Only (k.Mark mark.CloseBracket)) f p ts ≡ (after (Only (k.Mark mark.CloseBracket)) (λ t. pure w) q >>= (λ z. more l.E11 z)) ts
empty_or v w f p q [] h e = e
empty_or v w f p q (t ∷ ts) h e = by (has (Only (k.Mark mark.CloseBracket)) (kind t))
  where
    by : (b : Bool) → and_then (if b then Ok (Some t, ts) else Ok (None, t ∷ ts)) (taken f p)
        ≡ and_then (and_then (if b then Ok (Some t, ts) else Ok (None, t ∷ ts)) (taken (λ t'. pure w) q)) (λ z. more l.E11 z)
    by true = h t ts
    by false = e

pub more_operand : (a : Operand) (ts : List Token) → more l.E11 (operand a) ts ≡ more_part (operand a) ts
unfolding reach again more_part cast_part bracket_part
more_operand (o.Plain a) ts =
    more_straight l.E11 (Tree a) ts
    ∙ after_same (Only (k.Mark mark.DoubleColon)) _ _ _ _ ts
    (λ t r. sym (pure_then (parse l.Basic r) (λ n. cast_of (Tree a) (Word t ∷ n ∷ [])) (λ w. more l.E11 w)))
    (λ r. after_same (Only (k.Mark mark.OpenBracket)) _ _ _ _ r (λ t r'. index_is (Tree a) t r') (λ r'. refl))
more_operand (o.Cast a p n) ts =
    more_straight l.E11 (Casted a p n) ts
    ∙ after_same (Only (k.Mark mark.DoubleColon)) _ _ _ _ ts
    (λ t r. sym (pure_then (parse l.Basic r) (λ m. cast_of (Casted a p n) (Word t ∷ m ∷ [])) (λ w. more l.E11 w)))
    (λ r. after_same (Only (k.Mark mark.OpenBracket)) _ _ _ _ r (λ t r'. empty_or (Casted a p n) (array_cast (Casted a p n)) _ _ _ r' (λ t' q. refl) (index_is (Casted a p n) t r')) (λ r'. refl))

-- ---- what is left

eat_left : (c : Class) (ts : List Token) → left (eat c ts) ≤ length ts
eat_left c [] = omega arith
eat_left c (t ∷ ts) = by (has c (kind t))
  where
    by : (b : Bool) → left {A = Option Token} (if b then Ok (Some t, ts) else Ok (None, t ∷ ts)) ≤ length (t ∷ ts)
    by true = omega arith
    by false = omega arith

cast_left : (v : Value) (a : Token) (ts : List Token) → left (cast_part v a ts) ≤ length ts
unfolding cast_part
cast_left v a ts = rw (map_left (parse l.Basic ts) (λ n. cast_of v (Word a ∷ n ∷ []))) (parse_left l.Basic ts)

pub cast_less : (v w : Value) (a : Token) (ts r : List Token) → cast_part v a ts ≡ Ok (w, r) → length r ≤ length ts
cast_less v w a ts r e = subst (λ q. left q ≤ length ts) e (cast_left v a ts)

map_less : {A B : Type 0} (o : Outcome A) (f : A → B) (b : ℕ) → left o ≤ b → left (and_then o (λ a. pure (f a))) ≤ b
map_less (Ok p) f b h = h
map_less (Err n) f b h = h

abbrev with_lone : Value → List Token → List Token → Token → Value × Bool
with_lone i ts r w = (i, lone ts r)

indexes_left : (v : Value) (a : Token) (ts : List Token) → left (and_then (index_part ts) (λ p. pure (indexed v a p))) ≤ length ts
unfolding index_part
indexes_left v a ts =
    map_less (index_part ts) (λ p. indexed v a p) (length ts)
    (then_left (parse l.E0 ts) _ (length ts) (parse_left l.E0 ts) (λ i r. map_less (expect (Only (k.Mark mark.CloseBracket)) r) (with_lone i ts r) (length r) (expect_left_is (Only (k.Mark mark.CloseBracket)) r)))

bracket_left : (v : Value) (a : Token) (ts : List Token) → left (bracket_part v a ts) ≤ length ts
unfolding bracket_part
bracket_left v a ts = by (is_open v)
  where
    by : (b : Bool) → left ((if b then after (Only (k.Mark mark.CloseBracket)) (λ w. pure (array_cast v)) (index_part >>= (λ p. pure (indexed v a p))) else (index_part >>= (λ p. pure (indexed v a p)))) ts) ≤ length ts
    by true = then_left (eat (Only (k.Mark mark.CloseBracket)) ts) _ (length ts) (eat_left (Only (k.Mark mark.CloseBracket)) ts) next
      where
        next : (found : Option Token) (r : List Token) → left (taken (λ w. pure (array_cast v)) (index_part >>= (λ p. pure (indexed v a p))) found r) ≤ length r
        next (Some t) r = omega arith
        next None r = indexes_left v a r
    by false = indexes_left v a ts

pub bracket_less : (v w : Value) (a : Token) (ts r : List Token) → bracket_part v a ts ≡ Ok (w, r) → length r ≤ length ts
bracket_less v w a ts r e = subst (λ q. left q ≤ length ts) e (bracket_left v a ts)

-- ---- one turn

pub cast_turn : (a b : Operand) (t : Token) (whole : Outcome Value) (ts us r : List Token)
    → whole ≡ more l.E11 (operand a) ts → eat (Only (k.Mark mark.DoubleColon)) ts ≡ Ok (Some t, us) → cast_part (operand a) t us ≡ Ok (operand b, r) → whole ≡ more l.E11 (operand b) r
unfolding more_part
cast_turn a b t whole ts us r same eaten read =
    same ∙ more_operand a ts
    ∙ ap (λ z. and_then z (taken (λ t'. cast_part (operand a) t' >>= (λ w. more l.E11 w)) (after (Only (k.Mark mark.OpenBracket)) (λ t'. bracket_part (operand a) t' >>= (λ w. more l.E11 w)) (pure (operand a))))) eaten
    ∙ ap (λ z. and_then z (λ w. more l.E11 w)) read

pub bracket_turn : (a b : Operand) (t : Token) (whole : Outcome Value) (ts us ws r : List Token)
    → whole ≡ more l.E11 (operand a) ts → eat (Only (k.Mark mark.DoubleColon)) ts ≡ Ok (None, us) → eat (Only (k.Mark mark.OpenBracket)) us ≡ Ok (Some t, ws)
    → bracket_part (operand a) t ws ≡ Ok (operand b, r) → whole ≡ more l.E11 (operand b) r
unfolding more_part
bracket_turn a b t whole ts us ws r same none eaten read =
    same ∙ more_operand a ts
    ∙ ap (λ z. and_then z (taken (λ t'. cast_part (operand a) t' >>= (λ w. more l.E11 w)) (after (Only (k.Mark mark.OpenBracket)) (λ t'. bracket_part (operand a) t' >>= (λ w. more l.E11 w)) (pure (operand a))))) none
    ∙ ap (λ z. and_then z (taken (λ t'. bracket_part (operand a) t' >>= (λ w. more l.E11 w)) (pure (operand a)))) eaten
    ∙ ap (λ z. and_then z (λ w. more l.E11 w)) read
