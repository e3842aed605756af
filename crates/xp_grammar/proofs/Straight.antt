-- A trie read as code goes: straight into the last edge, and with what comes next handed down.
use Rattle.std.proofs.Common.{◌≡◌, suc, Bool, true, false, not, ◌&&◌, ◌||◌, List, [], ◌∷◌, length, Option, Some, None, Ok, Err, refl, sym, ap, ◌∙◌, if◌then◌else◌, arith}
use Rattle.std.proofs.lemmas.Bool.{and_parts, or_parts}
use Rattle.xp_token.specs.declared.token.Token.{Token}
use Rattle.xp_grammar.specs.declared.kind.Kind.TheVariants as k
use Rattle.xp_grammar.specs.Kinds.{kind, ahead, has}
use Rattle.xp_grammar.specs.Table.{Level, Tok, Lev, Value, Word, Start, Tail, is_open, made, joined}
use Rattle.xp_grammar.specs.inner.Machine.{Outcome, Parser, and_then, ◌>>=◌, pure, fail, expect, taken, after, starting, Node, Edges, node, stop, edge, trie, tails, first, any_opens, symbol, walk, choose, used, onward, parse, more}
use Rattle.xp_grammar.proofs.Fix.{parse_is, not_first}
use Rattle.xp_grammar.proofs.Fronts.{paired}
use Rattle.xp_grammar.proofs.Turns.{more_turn, more_ends}

unfoldable mutual
  pub reach : {A B : Type 0} → Node A → (List Value → List Value) → (A → List Value → Parser B) → Parser B
  reach (node d es) acc go = pick es d acc go

  pub pick : {A B : Type 0} → Edges A → Option A → (List Value → List Value) → (A → List Value → Parser B) → Parser B
  pick stop None acc go = fail
  pick stop (Some x) acc go = go x (acc [])
  pick (edge (Tok c) n stop) None acc go = expect c >>= (λ t. reach n (λ vs. acc (Word t ∷ vs)) go)
  pick (edge (Tok c) n es) d acc go = after c (λ t. reach n (λ vs. acc (Word t ∷ vs)) go) (pick es d acc go)
  pick (edge (Lev m) n stop) None acc go = parse m >>= (λ v. reach n (λ vs. acc (v ∷ vs)) go)
  pick (edge (Lev m) n es) d acc go = starting m (parse m >>= (λ v. reach n (λ vs. acc (v ∷ vs)) go)) (pick es d acc go)

-- no edge is for what stands behind the last token
abbrev mutual
  pub sane : {A : Type 0} → Node A → Bool
  sane (node d es) = sane_edges es

  pub sane_edges : {A : Type 0} → Edges A → Bool
  sane_edges stop = true
  sane_edges (edge (Tok c) n es) = not (has c k.Nothing) && (sane n && sane_edges es)
  sane_edges (edge (Lev m) n es) = sane n && sane_edges es

is_not : (b : Bool) → not b ≡ true → b ≡ false
is_not b h = grind arith

module _ {A B : Type 0} (go : A → List Value → Parser B) where
  abbrev handed : (List Value → List Value) → Outcome (A × List Value) → Outcome B
  handed acc o = and_then o (λ p. go p.0 (acc p.1))

  moved : (acc : List Value → List Value) (v : Value) (o : Outcome (A × List Value)) → handed acc (and_then o (λ p. pure (paired v p))) ≡ handed (λ vs. acc (v ∷ vs)) o
  moved acc v (Ok p) = refl
  moved acc v (Err n) = refl

  level_step : (n : Node A) (acc : List Value → List Value) (o : Outcome Value) → ((v : Value) (r : List Token) → handed (λ vs. acc (v ∷ vs)) (walk parse n r) ≡ reach n (λ vs. acc (v ∷ vs)) go r)
      → handed acc (and_then o (λ v r. and_then (walk parse n r) (λ p. pure (paired v p)))) ≡ and_then o (λ v. reach n (λ vs. acc (v ∷ vs)) go)
  level_step n acc (Ok p) below = moved acc p.0 (walk parse n p.1) ∙ below p.0 p.1
  level_step n acc (Err m) below = refl

  either : (acc : List Value → List Value) (b : Bool) (x y : Outcome (A × List Value)) (z w : Outcome B) → handed acc x ≡ z → handed acc y ≡ w → handed acc (if b then x else y) ≡ (if b then z else w)
  either acc true x y z w p q = p
  either acc false x y z w p q = q

  none_step : (acc : List Value → List Value) (b : Bool) (x y : Outcome (A × List Value)) (w : Outcome B) → b ≡ false → handed acc y ≡ w → handed acc (if b then x else y) ≡ w
  none_step acc true x y w h q = absurd cc
  none_step acc false x y w h q = q

  token_last : (n : Node A) (acc : List Value → List Value) (t : Token) (ts : List Token) (b : Bool)
      → handed (λ vs. acc (Word t ∷ vs)) (walk parse n ts) ≡ reach n (λ vs. acc (Word t ∷ vs)) go ts
      → handed acc (if b then and_then (and_then (if b then Ok (t, ts) else Err (length (t ∷ ts))) (λ t'. pure (Word t'))) (λ v r. and_then (walk parse n r) (λ p. pure (paired v p))) else Err (length (t ∷ ts)))
      ≡ and_then (if b then Ok (t, ts) else Err (length (t ∷ ts))) (λ t'. reach n (λ vs. acc (Word t' ∷ vs)) go)
  token_last n acc t ts true p = moved acc (Word t) (walk parse n ts) ∙ p
  token_last n acc t ts false p = refl

  token_step : (n : Node A) (acc : List Value → List Value) (t : Token) (ts : List Token) (b : Bool) (y : Outcome (A × List Value)) (other : Parser B)
      → handed (λ vs. acc (Word t ∷ vs)) (walk parse n ts) ≡ reach n (λ vs. acc (Word t ∷ vs)) go ts → handed acc y ≡ other (t ∷ ts)
      → handed acc (if b then and_then (and_then (if b then Ok (t, ts) else Err (length (t ∷ ts))) (λ t'. pure (Word t'))) (λ v r. and_then (walk parse n r) (λ p. pure (paired v p))) else y)
      ≡ and_then (if b then Ok (Some t, ts) else Ok (None, t ∷ ts)) (taken (λ t'. reach n (λ vs. acc (Word t' ∷ vs)) go) other)
  token_step n acc t ts true y other p q = moved acc (Word t) (walk parse n ts) ∙ p
  token_step n acc t ts false y other p q = q

  last_step : (n : Node A) (acc : List Value → List Value) (m : Level) (ts : List Token) (b : Bool) (o : Outcome Value) → (b ≡ false → o ≡ Err (length ts))
      → handed acc (and_then o (λ v r. and_then (walk parse n r) (λ p. pure (paired v p)))) ≡ and_then o (λ v. reach n (λ vs. acc (v ∷ vs)) go)
      → handed acc (if b then and_then o (λ v r. and_then (walk parse n r) (λ p. pure (paired v p))) else Err (length ts)) ≡ and_then o (λ v. reach n (λ vs. acc (v ∷ vs)) go)
  last_step n acc m ts true o h p = p
  last_step n acc m ts false o h p = ap (λ z. and_then z (λ v. reach n (λ vs. acc (v ∷ vs)) go)) (sym (h refl))

  mutual
    unfolding walk symbol reach

    pub reach_is : (n : Node A) (acc : List Value → List Value) (ts : List Token) → sane n ≡ true → handed acc (walk parse n ts) ≡ reach n acc go ts
    reach_is (node d es) acc ts s = pick_is es d acc ts s

    pub pick_is : (es : Edges A) (d : Option A) (acc : List Value → List Value) (ts : List Token) → sane_edges es ≡ true → handed acc (choose parse es d ts) ≡ pick es d acc go ts
    pick_is stop None acc ts s = refl
    pick_is stop (Some x) acc ts s = refl
    pick_is (edge (Tok c) n stop) None acc [] s = none_step acc (has c k.Nothing) (Err 0) (Err 0) (Err 0) (is_not _ (and_parts (not (has c k.Nothing)) _ s).0) refl
    pick_is (edge (Tok c) n stop) None acc (t ∷ ts) s =
        token_last n acc t ts (has c (kind t)) (reach_is n (λ vs. acc (Word t ∷ vs)) ts (and_parts (sane n) _ (and_parts (not (has c k.Nothing)) _ s).1).0)
    pick_is (edge (Tok c) n stop) (Some x) acc [] s = none_step acc (has c k.Nothing) _ (choose parse stop (Some x) []) (pick stop (Some x) acc go []) (is_not _ (and_parts (not (has c k.Nothing)) _ s).0) refl
    pick_is (edge (Tok c) n stop) (Some x) acc (t ∷ ts) s =
        token_step n acc t ts (has c (kind t)) (choose parse stop (Some x) (t ∷ ts)) (pick stop (Some x) acc go) (reach_is n (λ vs. acc (Word t ∷ vs)) ts (and_parts (sane n) _ (and_parts (not (has c k.Nothing)) _ s).1).0) refl
    pick_is (edge (Tok c) n (edge y n' es)) d acc [] s =
        none_step acc (has c k.Nothing) _ (choose parse (edge y n' es) d []) (pick (edge y n' es) d acc go []) (is_not _ (and_parts (not (has c k.Nothing)) _ s).0)
        (pick_is (edge y n' es) d acc [] (and_parts (sane n) _ (and_parts (not (has c k.Nothing)) _ s).1).1)
    pick_is (edge (Tok c) n (edge y n' es)) d acc (t ∷ ts) s =
        token_step n acc t ts (has c (kind t)) (choose parse (edge y n' es) d (t ∷ ts)) (pick (edge y n' es) d acc go) (reach_is n (λ vs. acc (Word t ∷ vs)) ts (and_parts (sane n) _ (and_parts (not (has c k.Nothing)) _ s).1).0)
        (pick_is (edge y n' es) d acc (t ∷ ts) (and_parts (sane n) _ (and_parts (not (has c k.Nothing)) _ s).1).1)
    pick_is (edge (Lev m) n stop) None acc ts s =
        last_step n acc m ts (first m (ahead ts)) (parse m ts) (λ h. not_first m ts h) (level_step n acc (parse m ts) (λ v r. reach_is n (λ vs. acc (v ∷ vs)) r (and_parts (sane n) _ s).0))
    pick_is (edge (Lev m) n stop) (Some x) acc ts s =
        either acc (first m (ahead ts)) _ (choose parse stop (Some x) ts) _ (pick stop (Some x) acc go ts) (level_step n acc (parse m ts) (λ v r. reach_is n (λ vs. acc (v ∷ vs)) r (and_parts (sane n) _ s).0)) refl
    pick_is (edge (Lev m) n (edge y n' es)) d acc ts s =
        either acc (first m (ahead ts)) _ (choose parse (edge y n' es) d ts) _ (pick (edge y n' es) d acc go ts)
        (level_step n acc (parse m ts) (λ v r. reach_is n (λ vs. acc (v ∷ vs)) r (and_parts (sane n) _ s).0)) (pick_is (edge y n' es) d acc ts (and_parts (sane n) _ s).1)

trie_sane : (m : Level) → sane (trie m) ≡ true
trie_sane Level.Statement = refl
trie_sane Level.Selects = refl
trie_sane Level.Items = refl
trie_sane Level.Item = refl
trie_sane Level.Rows = refl
trie_sane Level.Shown = refl
trie_sane Level.E0 = refl
trie_sane Level.E1 = refl
trie_sane Level.E2 = refl
trie_sane Level.E3 = refl
trie_sane Level.E4 = refl
trie_sane Level.E5 = refl
trie_sane Level.E6 = refl
trie_sane Level.P = refl
trie_sane Level.E7 = refl
trie_sane Level.E8 = refl
trie_sane Level.E9 = refl
trie_sane Level.E10 = refl
trie_sane Level.E11 = refl
trie_sane Level.E12 = refl
trie_sane Level.Args = refl
trie_sane Level.Arms = refl
trie_sane Level.Full = refl
trie_sane Level.Basic = refl
trie_sane Level.Typename = refl

abbrev pub finished : Level → Start → List Value → Parser Value
finished l x vs r = onward parse (suc (length r)) l (made x vs) r

pub parse_straight : (l : Level) (ts : List Token) → parse l ts ≡ reach (trie l) (λ vs. vs) (finished l) ts
parse_straight l ts = parse_is l ts ∙ reach_is (finished l) (trie l) (λ vs. vs) ts (trie_sane l)

-- ---- how a level goes on

abbrev pub turned : Level → Value → Token → List Token → Tail → List Value → Parser Value
turned l v t ts x vs r = more l (joined x v (used (t ∷ ts) r) vs) r

unfoldable pub again : Edges Tail → Level → Value → Parser Value
again stop l v = pure v
again (edge (Tok c) n es) l v = after c (λ t ts. reach n (λ vs. Word t ∷ vs) (turned l v t ts) ts) (again es l v)
again (edge (Lev m) n es) l v = pure v

-- all begin with a token
abbrev sane_tails : Edges Tail → Bool
sane_tails stop = true
sane_tails (edge (Tok c) n es) = not (has c k.Nothing) && (sane n && sane_tails es)
sane_tails (edge (Lev m) n es) = false

tails_sane : (m : Level) (b : Bool) → sane_tails (tails m b) ≡ true
tails_sane Level.Statement b = refl
tails_sane Level.Selects b = refl
tails_sane Level.Items b = refl
tails_sane Level.Item b = refl
tails_sane Level.Rows b = refl
tails_sane Level.Shown b = refl
tails_sane Level.E0 b = refl
tails_sane Level.E1 b = refl
tails_sane Level.E2 b = refl
tails_sane Level.E3 b = refl
tails_sane Level.E4 b = refl
tails_sane Level.E5 b = refl
tails_sane Level.E6 b = refl
tails_sane Level.P b = refl
tails_sane Level.E7 b = refl
tails_sane Level.E8 b = refl
tails_sane Level.E9 b = refl
tails_sane Level.E10 b = refl
tails_sane Level.E11 true = refl
tails_sane Level.E11 false = refl
tails_sane Level.E12 b = refl
tails_sane Level.Args true = refl
tails_sane Level.Args false = refl
tails_sane Level.Arms b = refl
tails_sane Level.Full b = refl
tails_sane Level.Basic b = refl
tails_sane Level.Typename b = refl

or_second : (a b : Bool) → a ≡ false → a || b ≡ true → b ≡ true
or_second a b h e = grind arith

again_ends : (l : Level) (v : Value) (es : Edges Tail) (ts : List Token) → any_opens es (ahead ts) ≡ false → again es l v ts ≡ Ok (v, ts)
unfolding again
again_ends l v stop ts e = refl
again_ends l v (edge (Tok c) n es) [] e = again_ends l v es [] (or_parts (has c k.Nothing) (any_opens es k.Nothing) e).1
again_ends l v (edge (Tok c) n es) (t ∷ ts) e =
    let both = or_parts (has c (kind t)) (any_opens es (kind t)) e in
    by (has c (kind t)) both.0 (again_ends l v es (t ∷ ts) both.1)
  where
    by : (b : Bool) → b ≡ false → again es l v (t ∷ ts) ≡ Ok (v, t ∷ ts)
        → and_then (if b then Ok (Some t, ts) else Ok (None, t ∷ ts)) (taken (λ t' ts'. reach n (λ vs. Word t' ∷ vs) (turned l v t' ts') ts') (again es l v)) ≡ Ok (v, t ∷ ts)
    by true h q = absurd cc
    by false h q = q
again_ends l v (edge (Lev m) n es) ts e = refl

abbrev next_turn : Level → Value → List Token → Outcome (Tail × List Value) → Outcome Value
next_turn l v ts o = and_then o (λ p r. more l (joined p.0 v (used ts r) p.1) r)

again_turns : (l : Level) (v : Value) (es : Edges Tail) (ts : List Token) → sane_tails es ≡ true → any_opens es (ahead ts) ≡ true → next_turn l v ts (choose parse es None ts) ≡ again es l v ts
unfolding again walk symbol
again_turns l v stop ts s e = absurd cc
again_turns l v (edge (Tok c) n es) [] s e =
    let sides = and_parts (not (has c k.Nothing)) (sane n && sane_tails es) s in
    let none = is_not (has c k.Nothing) sides.0 in
    by (has c k.Nothing) none (again_turns l v es [] (and_parts (sane n) (sane_tails es) sides.1).1 (or_second (has c k.Nothing) (any_opens es k.Nothing) none e))
  where
    by : (b : Bool) → b ≡ false → next_turn l v [] (choose parse es None []) ≡ again es l v [] → next_turn l v [] (if b then Err 0 else choose parse es None []) ≡ again es l v []
    by true h q = absurd cc
    by false h q = q
again_turns l v (edge (Tok c) n es) (t ∷ ts) s e =
    let sides = and_parts (sane n) (sane_tails es) (and_parts (not (has c k.Nothing)) (sane n && sane_tails es) s).1 in
    by (has c (kind t)) refl (reach_is (turned l v t ts) n (λ vs. Word t ∷ vs) ts sides.0) (λ h. again_turns l v es (t ∷ ts) sides.1 (or_second (has c (kind t)) (any_opens es (kind t)) h e))
  where
    by : (b : Bool) → has c (kind t) ≡ b → and_then (walk parse n ts) (λ p. turned l v t ts p.0 (Word t ∷ p.1)) ≡ reach n (λ vs. Word t ∷ vs) (turned l v t ts) ts
        → (has c (kind t) ≡ false → next_turn l v (t ∷ ts) (choose parse es None (t ∷ ts)) ≡ again es l v (t ∷ ts))
        → next_turn l v (t ∷ ts) (if b then and_then (and_then (if b then Ok (t, ts) else Err (length (t ∷ ts))) (λ t'. pure (Word t'))) (λ v r. and_then (walk parse n r) (λ p. pure (paired v p))) else choose parse es None (t ∷ ts))
        ≡ and_then (if b then Ok (Some t, ts) else Ok (None, t ∷ ts)) (taken (λ t' ts'. reach n (λ vs. Word t' ∷ vs) (turned l v t' ts') ts') (again es l v))
    by true h q others = moved (turned l v t ts) (λ vs. vs) (Word t) (walk parse n ts) ∙ q
    by false h q others = others h
again_turns l v (edge (Lev m) n es) ts s e = absurd cc

pub more_straight : (l : Level) (v : Value) (ts : List Token) → more l v ts ≡ again (tails l (is_open v)) l v ts
more_straight l v ts = by (any_opens (tails l (is_open v)) (ahead ts)) refl
  where
    by : (b : Bool) → any_opens (tails l (is_open v)) (ahead ts) ≡ b → more l v ts ≡ again (tails l (is_open v)) l v ts
    by true e = more_turn l v ts e ∙ again_turns l v (tails l (is_open v)) ts (tails_sane l (is_open v)) e
    by false e = more_ends l v ts e ∙ sym (again_ends l v (tails l (is_open v)) ts e)
