-- Tests on representations, and on numbers of types.
use Rattle.std.proofs.Common.{◌≡◌, Bool, true, false, ◌&&◌, ◌||◌, ◌==◌, refl, ap}
use Rattle.std.proofs.lemmas.Bool.Decides.{Decides-eqb}
use Rattle.xp_base.specs.declared.numbers.TypeNo.{TypeNo}
use Rattle.xp_value.specs.declared.value.Rep.{Rep}
use Rattle.xp_value.specs.declared.value.Rep.TheVariants as rep
use Rattle.xp_tree.specs.Rests.{is_same_rep}
use Rattle.xp_tree.specs.Typed.{is_relabelled, is_text, may_be_text}

-- both are texts, or one isn't represented
some_of : (a b x y z : Bool) → (a || x) ≡ true → (b || y) ≡ true → ((a && b) || x || y || z) ≡ true
some_of true true x y z h k = refl
some_of true false true y z h k = refl
some_of true false false true z h k = refl
some_of true false false false z h k = cc k
some_of false b true y z h k = refl
some_of false b false y z h k = cc h

pub texts_relabel : (a b : Rep) → may_be_text a ≡ true → may_be_text b ≡ true → is_relabelled a b ≡ true
texts_relabel a b h k = some_of (is_text a) (is_text b) (is_same_rep a rep.Opaque) (is_same_rep b rep.Opaque) (is_same_rep a b) h k

pub opaque_relabels : (b : Rep) → is_relabelled rep.Opaque b ≡ true
opaque_relabels b = refl

from_third : (a x y z : Bool) → y ≡ true → (a || x || y || z) ≡ true
from_third true x y z h = refl
from_third false true y z h = refl
from_third false false y z h = rw h refl

pub relabels_to_opaque : (a : Rep) → is_relabelled a rep.Opaque ≡ true
relabels_to_opaque a = from_third (is_text a && is_text rep.Opaque) (is_same_rep a rep.Opaque) (is_same_rep rep.Opaque rep.Opaque) (is_same_rep a rep.Opaque) refl

from_fourth : (a x y z : Bool) → z ≡ true → (a || x || y || z) ≡ true
from_fourth true x y z h = refl
from_fourth false true y z h = refl
from_fourth false false true z h = refl
from_fourth false false false z h = h

same_rep : (a : Rep) → is_same_rep a a ≡ true
same_rep rep.Bool = refl
same_rep rep.Int2 = refl
same_rep rep.Int4 = refl
same_rep rep.Int8 = refl
same_rep rep.Num = refl
same_rep rep.Text = refl
same_rep rep.Pad = refl
same_rep rep.Bytes = refl
same_rep rep.Day = refl
same_rep rep.Arr = refl
same_rep rep.Int4Range = refl
same_rep rep.Int8Range = refl
same_rep rep.DateRange = refl
same_rep rep.Opaque = refl

pub relabels_itself : (a : Rep) → is_relabelled a a ≡ true
relabels_itself a = from_fourth (is_text a && is_text a) (is_same_rep a rep.Opaque) (is_same_rep a rep.Opaque) (is_same_rep a a) (same_rep a)

pub same_number : (a b : TypeNo) → (a.0 == b.0) ≡ true → a ≡ b
same_number a b is = ap (λ n. record { 0 = n }) ((Decides-eqb a.0 b.0).0 is)
