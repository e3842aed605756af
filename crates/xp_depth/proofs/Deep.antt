-- The depth as the code counts it.
use Rattle.std.proofs.Common.{◌≡◌, ℕ, ◌+◌, ◌≤◌, ◌<◌, max, Bool, true, false, cond, List, [], ◌∷◌, ◌++◌, length, reverse, Option, Some, None, refl, sym, ap, subst, ◌∙◌, arith}
use Rattle.std.specs.Prelude.{nat_lt}
use Rattle.std.proofs.lemmas.Bool.Decides.{nat_tests}
use Rattle.xp_base.specs.declared.limits.TheConstants.{DEPTH_LIMIT}
use Rattle.xp_token.specs.declared.token.Token.{Token}
use Rattle.xp_grammar.specs.declared.kind.Kind.{Kind}
use Rattle.xp_grammar.specs.declared.kind.Kind.TheVariants as k
use Rattle.xp_grammar.specs.Kinds.{kind}
use Rattle.xp_depth.specs.declared.depth.Role.{Role}
use Rattle.xp_depth.specs.declared.depth.Role.TheVariants.{Plain, Joint, Bracket, Opening, Closing, Divider}
use Rattle.std.proofs.lemmas.List.{reverse-append}
use Rattle.xp_depth.specs.declared.depth.Part.{Part}
use Rattle.xp_depth.specs.Depth.{deepest, divided, with_group, with_joint, nothing, closed, depth_of, left, Groups, step, role_of, groups, start, depth, deep_from, first_deep}
use Rattle.xp_depth.specs.inner.Counted.{added, around}

-- what is in the innermost group counts with what the groups around it add
pub closed_is : (p : Part) (ps : List Part) → closed p ps ≡ max (added ps + deepest p) (around ps)
closed_is p [] = omega arith
closed_is p (q ∷ qs) =
    let e = closed_is (with_group (deepest p + 1) q) qs in
    let f = closed_is q qs in
    omega (arith, e, f)

-- a part more, the innermost
pub around_pushed : (p : Part) (outer new : List Part) → new ≡ outer ++ p ∷ [] → around (reverse new) ≡ max (added (reverse outer) + deepest p) (around (reverse outer))
around_pushed p outer new e = ap (λ xs. around (reverse xs)) e ∙ ap around (reverse-append outer (p ∷ [])) ∙ closed_is p (reverse outer)

pub added_pushed : (p : Part) (outer new : List Part) → new ≡ outer ++ p ∷ [] → added (reverse new) ≡ added (reverse outer) + p.joints + 1
added_pushed p outer new e = ap (λ xs. added (reverse xs)) e ∙ ap added (reverse-append outer (p ∷ []))

-- a joint deepens also what opens behind it
pub bracket_deepens : (p : Part) (ps : List Part) (n : ℕ) → n < closed (with_joint p) ps → n < closed nothing (with_joint p ∷ ps)
bracket_deepens p ps n h = omega (arith, closed_is (with_joint p) ps, closed_is nothing (with_joint p ∷ ps), h)

-- ---- no token makes a list less deep

left_deepens : (p : Part) (ps : List Part) → closed p ps ≤ depth_of (left p ps)
left_deepens p [] = omega arith
left_deepens p (q ∷ qs) = omega arith

step_deepens : (r : Role) (g : Groups) → depth_of g ≤ depth_of (step r g)
step_deepens Plain g = omega arith
step_deepens Joint g = omega (arith, closed_is g.part g.outer, closed_is (with_joint g.part) g.outer)
step_deepens Bracket g = omega (arith, closed_is g.part g.outer, closed_is (with_joint g.part) g.outer, closed_is nothing (with_joint g.part ∷ g.outer))
step_deepens Opening g = omega (arith, closed_is nothing (g.part ∷ g.outer))
step_deepens Closing g = left_deepens g.part g.outer
step_deepens Divider g = omega (arith, closed_is g.part g.outer, closed_is (divided g.part) g.outer)

groups_deepen : (before : Kind) (g : Groups) (ts : List Token) → depth_of g ≤ depth_of (groups before g ts)
groups_deepen before g [] = omega arith
groups_deepen before g (t ∷ ts) =
    let h = step (role_of before (kind t)) g in
    omega (arith, step_deepens (role_of before (kind t)) g, groups_deepen (kind t) h ts)

-- ---- the first deep token

not_deeper : (m n : ℕ) → n ≤ m → nat_lt m n ≡ false
not_deeper m n h = grind (arith, nat_tests)

deeper : (m n : ℕ) → m < n → nat_lt m n ≡ true
deeper m n h = grind (arith, nat_tests)

within : (m n : ℕ) → nat_lt m n ≡ false → n ≤ m
within m n h = grind (arith, nat_tests)

beyond : (m n : ℕ) → nat_lt m n ≡ true → m < n
beyond m n h = grind (arith, nat_tests)

-- a token that isn't deep, and one that is
pub deep_goes : (at : ℕ) (before : Kind) (g : Groups) (t : Token) (ts : List Token) → depth_of (step (role_of before (kind t)) g) ≤ DEPTH_LIMIT
    → deep_from at before g (t ∷ ts) ≡ deep_from (at + 1) (kind t) (step (role_of before (kind t)) g) ts
deep_goes at before g t ts f =
    let e = not_deeper DEPTH_LIMIT (depth_of (step (role_of before (kind t)) g)) f in
    ap (λ b. cond b (Some at) (deep_from (at + 1) (kind t) (step (role_of before (kind t)) g) ts)) e

pub deep_stops : (at : ℕ) (before : Kind) (g : Groups) (t : Token) (ts : List Token) → DEPTH_LIMIT < depth_of (step (role_of before (kind t)) g)
    → deep_from at before g (t ∷ ts) ≡ Some at
deep_stops at before g t ts f =
    let e = deeper DEPTH_LIMIT (depth_of (step (role_of before (kind t)) g)) f in
    ap (λ b. cond b (Some at) (deep_from (at + 1) (kind t) (step (role_of before (kind t)) g) ts)) e

-- where the first deep token stands
pub record Deep (before : Kind) (g : Groups) (ts : List Token) (place : ℕ) : Type 0 where
  pub front : List Token
  pub token : Token
  pub rest : List Token
  pub split : ts ≡ front ++ token ∷ rest
  pub count : place ≡ length front
  pub shallow : depth_of (groups before g front) ≤ DEPTH_LIMIT
  pub deep : DEPTH_LIMIT < depth_of (groups before g (front ++ token ∷ []))

same_some : (m n : ℕ) → ◌≡◌ {A = Option ℕ} (Some m) (Some n) → m ≡ n
same_some m n e = grind arith

none_some : {X : Type 0} (n : ℕ) → ◌≡◌ {A = Option ℕ} None (Some n) → X
none_some n e = absurd (cc)

some_none : {X : Type 0} (n : ℕ) → ◌≡◌ {A = Option ℕ} (Some n) None → X
some_none n e = absurd (cc)

pub deep_is : (at : ℕ) (before : Kind) (g : Groups) (ts : List Token) (i : ℕ) → depth_of g ≤ DEPTH_LIMIT → deep_from at before g ts ≡ Some i
    → (j : ℕ) × (i ≡ at + j) × Deep before g ts j
deep_is at before g [] i h e = none_some i e
deep_is at before g (t ∷ ts) i h e =
    by (λ f. deep_is (at + 1) (kind t) (step (role_of before (kind t)) g) ts i f (sym (deep_goes at before g t ts f) ∙ e)) (nat_lt DEPTH_LIMIT (depth_of (step (role_of before (kind t)) g))) refl
  where
    later : depth_of (step (role_of before (kind t)) g) ≤ DEPTH_LIMIT → (j : ℕ) × (i ≡ at + 1 + j) × Deep (kind t) (step (role_of before (kind t)) g) ts j → (j : ℕ) × (i ≡ at + j) × Deep before g (t ∷ ts) j
    later f (j, p, d) = (
      j + 1,
      omega (arith, p),
      record {
        front = t ∷ d.front;
        token = d.token;
        rest = d.rest;
        split = ap (λ z. t ∷ z) d.split;
        count = omega (arith, d.count);
        shallow = d.shallow;
        deep = d.deep;
      },
    )

    by : (depth_of (step (role_of before (kind t)) g) ≤ DEPTH_LIMIT → (j : ℕ) × (i ≡ at + 1 + j) × Deep (kind t) (step (role_of before (kind t)) g) ts j)
        → (b : Bool) → nat_lt DEPTH_LIMIT (depth_of (step (role_of before (kind t)) g)) ≡ b → (j : ℕ) × (i ≡ at + j) × Deep before g (t ∷ ts) j
    by rest true q =
        let f = beyond DEPTH_LIMIT (depth_of (step (role_of before (kind t)) g)) q in
        let p = same_some at i (sym (deep_stops at before g t ts f) ∙ e) in
        (0, omega (arith, p), record { front = []; token = t; rest = ts; split = refl; count = refl; shallow = h; deep = f })
    by rest false q = let f = within DEPTH_LIMIT (depth_of (step (role_of before (kind t)) g)) q in later f (rest f)

-- no token is deep
pub deep_none : (at : ℕ) (before : Kind) (g : Groups) (ts : List Token) → depth_of g ≤ DEPTH_LIMIT → deep_from at before g ts ≡ None → depth_of (groups before g ts) ≤ DEPTH_LIMIT
deep_none at before g [] h e = h
deep_none at before g (t ∷ ts) h e =
    by (λ f. deep_none (at + 1) (kind t) (step (role_of before (kind t)) g) ts f (sym (deep_goes at before g t ts f) ∙ e)) (nat_lt DEPTH_LIMIT (depth_of (step (role_of before (kind t)) g))) refl
  where
    by : (depth_of (step (role_of before (kind t)) g) ≤ DEPTH_LIMIT → depth_of (groups (kind t) (step (role_of before (kind t)) g) ts) ≤ DEPTH_LIMIT)
        → (b : Bool) → nat_lt DEPTH_LIMIT (depth_of (step (role_of before (kind t)) g)) ≡ b → depth_of (groups (kind t) (step (role_of before (kind t)) g) ts) ≤ DEPTH_LIMIT
    by rest true q = some_none at (sym (deep_stops at before g t ts (beyond DEPTH_LIMIT (depth_of (step (role_of before (kind t)) g)) q)) ∙ e)
    by rest false q = rest (within DEPTH_LIMIT (depth_of (step (role_of before (kind t)) g)) q)

pub nowhere_deep : (at : ℕ) (before : Kind) (g : Groups) (ts : List Token) → depth_of (groups before g ts) ≤ DEPTH_LIMIT → deep_from at before g ts ≡ None
nowhere_deep at before g [] h = refl
nowhere_deep at before g (t ∷ ts) h =
    let f : depth_of (step (role_of before (kind t)) g) ≤ DEPTH_LIMIT = omega (arith, groups_deepen (kind t) (step (role_of before (kind t)) g) ts, h) in
    deep_goes at before g t ts f ∙ nowhere_deep (at + 1) (kind t) (step (role_of before (kind t)) g) ts h

pub deep_at : (at : ℕ) (before : Kind) (g : Groups) (us vs : List Token) (t : Token) → depth_of (groups before g us) ≤ DEPTH_LIMIT → DEPTH_LIMIT < depth_of (groups before g (us ++ t ∷ []))
    → deep_from at before g (us ++ t ∷ vs) ≡ Some (at + length us)
deep_at at before g [] vs t h f = let n : at ≡ at + 0 = omega arith in deep_stops at before g t vs f ∙ ap Some n
deep_at at before g (u ∷ us) vs t h f =
    let q : depth_of (step (role_of before (kind u)) g) ≤ DEPTH_LIMIT = omega (arith, groups_deepen (kind u) (step (role_of before (kind u)) g) us, h) in
    let n : at + 1 + length us ≡ at + length (u ∷ us) = omega arith in
    deep_goes at before g u (us ++ t ∷ vs) q ∙ deep_at (at + 1) (kind u) (step (role_of before (kind u)) g) us vs t h f ∙ ap Some n

-- ---- of a list

pub first_deep_is : (ts : List Token) (i : ℕ) → first_deep ts ≡ Some i → Deep k.Nothing start ts i
unfolding first_deep
first_deep_is ts i e = by (deep_is 0 k.Nothing start ts i (omega arith) e)
  where
    by : (j : ℕ) × (i ≡ 0 + j) × Deep k.Nothing start ts j → Deep k.Nothing start ts i
    by (j, p, d) = let q : j ≡ i = omega (arith, p) in subst (λ n. Deep k.Nothing start ts n) q d

pub first_deep_none : (ts : List Token) → first_deep ts ≡ None → depth ts ≤ DEPTH_LIMIT
unfolding first_deep depth
first_deep_none ts e = deep_none 0 k.Nothing start ts (omega arith) e

pub none_first_deep : (ts : List Token) → depth ts ≤ DEPTH_LIMIT → first_deep ts ≡ None
unfolding first_deep depth
none_first_deep ts h = nowhere_deep 0 k.Nothing start ts h

pub some_first_deep : (us vs : List Token) (t : Token) → depth us ≤ DEPTH_LIMIT → DEPTH_LIMIT < depth (us ++ t ∷ []) → first_deep (us ++ t ∷ vs) ≡ Some (length us)
unfolding first_deep depth
some_first_deep us vs t h f = let n : 0 + length us ≡ length us = omega arith in deep_at 0 k.Nothing start us vs t h f ∙ ap Some n

pub shorter_shallow : (us vs : List Token) → depth (us ++ vs) ≤ DEPTH_LIMIT → depth us ≤ DEPTH_LIMIT
unfolding depth
shorter_shallow us vs h = omega (arith, by k.Nothing start us, h)
  where
    by : (before : Kind) (g : Groups) (us : List Token) → depth_of (groups before g us) ≤ depth_of (groups before g (us ++ vs))
    by before g [] = groups_deepen before g vs
    by before g (u ∷ us) = by (kind u) (step (role_of before (kind u)) g) us

-- ---- the loop's turns

pub turn_goes : (at : ℕ) (before next : Kind) (r : Role) (g h : Groups) (t : Token) (ts rest : List Token) → ts ≡ t ∷ rest → next ≡ kind t → r ≡ role_of before next → h ≡ step r g → depth_of h ≤ DEPTH_LIMIT
    → deep_from (at + 1) next h rest ≡ deep_from at before g ts
turn_goes at before next r g h t ts rest d n q e f =
    let s : h ≡ step (role_of before (kind t)) g = e ∙ ap (λ x. step x g) (q ∙ ap (λ x. role_of before x) n) in
    let i : depth_of (step (role_of before (kind t)) g) ≤ DEPTH_LIMIT = rw (← s) f in
    rw (d, n, s) (sym (deep_goes at before g t rest i))

pub turn_stops : (at : ℕ) (before next : Kind) (r : Role) (g : Groups) (t : Token) (ts rest : List Token) (all : Option ℕ) → ts ≡ t ∷ rest → next ≡ kind t → r ≡ role_of before next → DEPTH_LIMIT < depth_of (step r g)
    → deep_from at before g ts ≡ all → Some at ≡ all
turn_stops at before next r g t ts rest all d n q f e =
    let i : DEPTH_LIMIT < depth_of (step (role_of before (kind t)) g) = rw (← n, ← q) f in
    sym (deep_stops at before g t rest i) ∙ ap (deep_from at before g) (sym d) ∙ e
