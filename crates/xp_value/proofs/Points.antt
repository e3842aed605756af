-- What makes an order total, at one point: an induction over values has it of an array's elements alone.
use Rattle.std.proofs.Common.{◌≡◌, List, [], ◌∷◌, refl}
use Rattle.std.specs.declared.cmp.Ordering.{Ordering}
use Rattle.std.specs.declared.cmp.Ordering.TheVariants.{Less, Equal, Greater}
use Rattle.std.specs.Ordering.{ordering_then, ordering_reverse, on, then_cmp}
use Rattle.std.specs.Cmp.{IsTotalOrder}
use Rattle.std.specs.Cmp.Lexicographic.{slice_cmp}
use Rattle.std.proofs.lemmas.Cmp.{alike_right}

pub record OrdersAt {K : Type 0} (R : K → K → Ordering) (x : K) : Type 0 where
  pub antisymm : (y : K) → R x y ≡ ordering_reverse (R y x)
  pub trans : (y z : K) → R x y ≡ Less → R y z ≡ Less → R x z ≡ Less
  pub congr : (y z : K) → R x y ≡ Equal → R x z ≡ R y z
  pub alike : (y z : K) → R y z ≡ Equal → R x y ≡ R x z

pub orders_total : {K : Type 0} (R : K → K → Ordering) → IsTotalOrder R → (x : K) → OrdersAt R x
orders_total R t x = record { antisymm = t.antisymm x; trans = t.trans x; congr = t.congr x; alike = λ y z e. alike_right t y z x e }

pub orders_on : {K J : Type 0} (f : K → J) (R : J → J → Ordering) (x : K) → OrdersAt R (f x) → OrdersAt (on f R) x
orders_on f R x o = record { antisymm = λ y. o.antisymm (f y); trans = λ y z. o.trans (f y) (f z); congr = λ y z. o.congr (f y) (f z); alike = λ y z. o.alike (f y) (f z) }

-- of two answers, one after the other
reversed : (p q p' q' : Ordering) → p ≡ ordering_reverse q → p' ≡ ordering_reverse q' → ordering_then p p' ≡ ordering_reverse (ordering_then q q')
reversed p Less p' q' e f = rw e refl
reversed p Equal p' q' e f = rw (e, f) refl
reversed p Greater p' q' e f = rw e refl

lessened : (q q' r' : Ordering) → (q' ≡ Less → r' ≡ Less) → ordering_then q q' ≡ Less → ordering_then q r' ≡ Less
lessened Less q' r' t e = refl
lessened Equal q' r' t e = t e
lessened Greater q' r' t e = cc

transited : (p q r p' q' r' : Ordering) → (p ≡ Less → q ≡ Less → r ≡ Less) → (p ≡ Equal → r ≡ q) → (q ≡ Equal → p ≡ r) → (p' ≡ Less → q' ≡ Less → r' ≡ Less) → ordering_then p p' ≡ Less → ordering_then q q' ≡ Less → ordering_then r r' ≡ Less
transited Less Less r p' q' r' t c a t' e f = rw (t refl refl) refl
transited Less Equal r p' q' r' t c a t' e f = rw (← a refl) refl
transited Less Greater r p' q' r' t c a t' e f = cc
transited Equal q r p' q' r' t c a t' e f = rw (c refl) (lessened q q' r' (t' e) f)
transited Greater q r p' q' r' t c a t' e f = cc

first_equal : (p p' : Ordering) → ordering_then p p' ≡ Equal → p ≡ Equal
first_equal Less p' e = e
first_equal Equal p' e = refl
first_equal Greater p' e = e

second_equal : (p p' : Ordering) → ordering_then p p' ≡ Equal → p' ≡ Equal
second_equal Less p' e = cc
second_equal Equal p' e = e
second_equal Greater p' e = cc

joined : (p q p' q' : Ordering) → p ≡ q → p' ≡ q' → ordering_then p p' ≡ ordering_then q q'
joined p q p' q' e f = rw (e, f) refl

pub orders_then : {K : Type 0} (R S : K → K → Ordering) (x : K) → OrdersAt R x → OrdersAt S x → OrdersAt (then_cmp R S) x
orders_then R S x o u = record {
  antisymm = λ y. reversed (R x y) (R y x) (S x y) (S y x) (o.antisymm y) (u.antisymm y);
  trans = λ y z. transited (R x y) (R y z) (R x z) (S x y) (S y z) (S x z) (o.trans y z) (o.congr y z) (o.alike y z) (u.trans y z);
  congr = λ y z e. joined (R x z) (R y z) (S x z) (S y z) (o.congr y z (first_equal (R x y) (S x y) e)) (u.congr y z (second_equal (R x y) (S x y) e));
  alike = λ y z e. joined (R x y) (R x z) (S x y) (S x z) (o.alike y z (first_equal (R y z) (S y z) e)) (u.alike y z (second_equal (R y z) (S y z) e));
}

abbrev pub EachOrders : {K : Type 0} → (K → K → Ordering) → List K → Type 0
EachOrders R [] = Unit {0}
EachOrders R (x ∷ xs) = OrdersAt R x × EachOrders R xs

module _ {K : Type 0} (R : K → K → Ordering) where
  lists_antisymm : (xs : List K) → EachOrders R xs → (ys : List K) → slice_cmp R xs ys ≡ ordering_reverse (slice_cmp R ys xs)
  lists_antisymm [] o [] = refl
  lists_antisymm [] o (y ∷ ys) = refl
  lists_antisymm (x ∷ xs) o [] = refl
  lists_antisymm (x ∷ xs) o (y ∷ ys) = reversed (R x y) (R y x) (slice_cmp R xs ys) (slice_cmp R ys xs) (o.0.antisymm y) (lists_antisymm xs o.1 ys)

  lists_trans : (xs : List K) → EachOrders R xs → (ys zs : List K) → slice_cmp R xs ys ≡ Less → slice_cmp R ys zs ≡ Less → slice_cmp R xs zs ≡ Less
  lists_trans [] o [] [] e f = e
  lists_trans [] o [] (z ∷ zs) e f = refl
  lists_trans [] o (y ∷ ys) [] e f = cc
  lists_trans [] o (y ∷ ys) (z ∷ zs) e f = refl
  lists_trans (x ∷ xs) o [] zs e f = cc
  lists_trans (x ∷ xs) o (y ∷ ys) [] e f = cc
  lists_trans (x ∷ xs) o (y ∷ ys) (z ∷ zs) e f =
      transited (R x y) (R y z) (R x z) (slice_cmp R xs ys) (slice_cmp R ys zs) (slice_cmp R xs zs) (o.0.trans y z) (o.0.congr y z) (o.0.alike y z) (lists_trans xs o.1 ys zs) e f

  lists_congr : (xs : List K) → EachOrders R xs → (ys zs : List K) → slice_cmp R xs ys ≡ Equal → slice_cmp R xs zs ≡ slice_cmp R ys zs
  lists_congr [] o [] zs e = refl
  lists_congr [] o (y ∷ ys) zs e = cc
  lists_congr (x ∷ xs) o [] zs e = cc
  lists_congr (x ∷ xs) o (y ∷ ys) [] e = refl
  lists_congr (x ∷ xs) o (y ∷ ys) (z ∷ zs) e =
      joined (R x z) (R y z) (slice_cmp R xs zs) (slice_cmp R ys zs) (o.0.congr y z (first_equal (R x y) (slice_cmp R xs ys) e)) (lists_congr xs o.1 ys zs (second_equal (R x y) (slice_cmp R xs ys) e))

  lists_alike : (xs : List K) → EachOrders R xs → (ys zs : List K) → slice_cmp R ys zs ≡ Equal → slice_cmp R xs ys ≡ slice_cmp R xs zs
  lists_alike xs o [] [] e = refl
  lists_alike xs o [] (z ∷ zs) e = cc
  lists_alike xs o (y ∷ ys) [] e = cc
  lists_alike [] o (y ∷ ys) (z ∷ zs) e = refl
  lists_alike (x ∷ xs) o (y ∷ ys) (z ∷ zs) e =
      joined (R x y) (R x z) (slice_cmp R xs ys) (slice_cmp R xs zs) (o.0.alike y z (first_equal (R y z) (slice_cmp R ys zs) e)) (lists_alike xs o.1 ys zs (second_equal (R y z) (slice_cmp R ys zs) e))

  pub orders_lists : (xs : List K) → EachOrders R xs → OrdersAt (slice_cmp R) xs
  orders_lists xs o = record { antisymm = lists_antisymm xs o; trans = lists_trans xs o; congr = lists_congr xs o; alike = lists_alike xs o }
