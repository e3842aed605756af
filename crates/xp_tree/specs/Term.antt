-- Typed trees as plain data (manual 4.2): a node over the trees of its parts, and last the type of its value.
use Rattle.std.specs.Prelude.{ℕ, ◌+◌, max, Bool, true, false, ◌&&◌, ◌||◌, not, List, [], ◌∷◌}
use Rattle.xp_base.specs.declared.numbers.RowNo.{RowNo}
use Rattle.xp_value.specs.declared.value.Value.{Value}
use Rattle.xp_catalog.specs.declared.rows.Volatility.{Volatility}
use Rattle.xp_catalog.specs.declared.rows.Volatility.TheVariants.{Immutable, Stable, Volatile}
use Rattle.xp_tree.specs.declared.parts.NodeType.{NodeType}
use Rattle.xp_tree.specs.declared.parts.Callee.{Callee}
use Rattle.xp_tree.specs.declared.parts.Way.{Way}
use Rattle.xp_tree.specs.declared.parts.Way.TheVariants.{ByBody, ByOutput, ByInput, ByRelabel}
use Rattle.xp_tree.specs.declared.parts.Modifier.{Modifier}

-- nodes without parts: a constant, a column by its number and name, VALUE in a check
pub data Leaf : Type 0 where
  constant : Value → Leaf
  column : ℕ → List ℕ → Leaf
  given : Leaf

-- nodes over one tree: a text of the value, a value of the text, the same value under another type, an
-- array's elements one by one, a value cut or padded to a modifier, and the tests of a truth value
pub data One : Type 0 where
  output : One
  input : One
  relabel : One
  elements : Way → One
  sizing : Modifier → Bool → One
  negation : One
  is_null : One
  is_true : One
  is_false : One
  is_unknown : One

-- nodes over two trees
pub data Two : Type 0 where
  conjunction : Two
  disjunction : Two
  null_if : Callee → Two
  distinct : Callee → Two
  subscript : Two

-- nodes over any number of trees
pub data Many : Type 0 where
  call : Callee → Many
  coalesce : Many
  greatest : Many
  least : Many
  array : Many

-- a domain's node holds the row of the domain and whether it is NOT NULL; `checked` holds its check too
mutual
  pub data Term : Type 0 where
    leaf : Leaf → NodeType → Term
    one : One → Term → NodeType → Term
    two : Two → Term → Term → NodeType → Term
    many : Many → Terms → NodeType → Term
    case : Arms → Term → NodeType → Term
    domain : Term → RowNo → Bool → NodeType → Term
    checked : Term → RowNo → Bool → Term → NodeType → Term

  pub data Terms : Type 0 where
    none : Terms
    more : Term → Terms → Terms

  -- the arms of CASE: a condition and a result each
  pub data Arms : Type 0 where
    no_arm : Arms
    arm : Term → Term → Arms → Arms

abbrev pub terms : List Term → Terms
terms [] = none
terms (a ∷ rest) = more a (terms rest)

-- the type of the tree's value
abbrev pub type_of : Term → NodeType
type_of (leaf l ty) = ty
type_of (one o a ty) = ty
type_of (two o a b ty) = ty
type_of (many o args ty) = ty
type_of (case arms other ty) = ty
type_of (domain a row not_null ty) = ty
type_of (checked a row not_null check ty) = ty

-- the number of nodes, those of checks counted where they stand
abbrev mutual
  pub size : Term → ℕ
  size (leaf l ty) = 1
  size (one o a ty) = size a + 1
  size (two o a b ty) = size a + size b + 1
  size (many o args ty) = size_all args + 1
  size (case arms other ty) = size_arms arms + size other + 1
  size (domain a row not_null ty) = size a + 1
  size (checked a row not_null check ty) = size a + size check + 1

  pub size_all : Terms → ℕ
  size_all none = 0
  size_all (more a rest) = size a + size_all rest

  pub size_arms : Arms → ℕ
  size_arms no_arm = 0
  size_arms (arm c r rest) = size c + size r + size_arms rest

-- ---- constness (manual 4.2.14)

abbrev pub is_immutable : Volatility → Bool
is_immutable Immutable = true
is_immutable Stable = false
is_immutable Volatile = false

-- the node is no column, and rests on an immutable record where it rests on one; texts of values are immutable
abbrev pub is_fixed_leaf : Leaf → Bool
is_fixed_leaf (constant v) = true
is_fixed_leaf (column number name) = false
is_fixed_leaf given = true

abbrev pub is_fixed_way : Way → Bool
is_fixed_way (ByBody callee) = is_immutable callee.volatility
is_fixed_way ByOutput = true
is_fixed_way ByInput = true
is_fixed_way ByRelabel = true

abbrev pub is_fixed_one : One → Bool
is_fixed_one (elements way) = is_fixed_way way
is_fixed_one _ = true

abbrev pub is_fixed_two : Two → Bool
is_fixed_two (null_if callee) = is_immutable callee.volatility
is_fixed_two (distinct callee) = is_immutable callee.volatility
is_fixed_two _ = true

abbrev pub is_fixed_many : Many → Bool
is_fixed_many (call callee) = is_immutable callee.volatility
is_fixed_many _ = true

-- every node of the tree is so
abbrev mutual
  pub is_fixed : Term → Bool
  is_fixed (leaf l ty) = is_fixed_leaf l
  is_fixed (one o a ty) = is_fixed_one o && is_fixed a
  is_fixed (two o a b ty) = is_fixed_two o && (is_fixed a && is_fixed b)
  is_fixed (many o args ty) = is_fixed_many o && all_fixed args
  is_fixed (case arms other ty) = arms_fixed arms && is_fixed other
  is_fixed (domain a row not_null ty) = is_fixed a
  is_fixed (checked a row not_null check ty) = is_fixed a && is_fixed check

  pub all_fixed : Terms → Bool
  all_fixed none = true
  all_fixed (more a rest) = is_fixed a && all_fixed rest

  pub arms_fixed : Arms → Bool
  arms_fixed no_arm = true
  arms_fixed (arm c r rest) = is_fixed c && is_fixed r && arms_fixed rest

abbrev pub is_given : Leaf → Bool
is_given given = true
is_given _ = false

-- VALUE stands in the tree outside the domain node that gives it
abbrev mutual
  pub is_open : Term → Bool
  is_open (leaf l ty) = is_given l
  is_open (one o a ty) = is_open a
  is_open (two o a b ty) = is_open a || is_open b
  is_open (many o args ty) = some_open args
  is_open (case arms other ty) = arms_open arms || is_open other
  is_open (domain a row not_null ty) = is_open a
  is_open (checked a row not_null check ty) = is_open a

  pub some_open : Terms → Bool
  some_open none = false
  some_open (more a rest) = is_open a || some_open rest

  pub arms_open : Arms → Bool
  arms_open no_arm = false
  arms_open (arm c r rest) = is_open c || is_open r || arms_open rest

-- the tree has one value whatever the row
abbrev pub is_const : Term → Bool
is_const t = is_fixed t && not (is_open t)
