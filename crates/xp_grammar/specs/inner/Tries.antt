-- What reading from the left goes by, computed from the table: the lines of a level, read together as far as they begin alike, and the kinds that begin a level (manual 4.1.6).
use Rattle.std.specs.Prelude.{ℕ, zero, suc, Bool, false, ◌&&◌, ◌||◌, ◌==◌, List, [], ◌∷◌, Some, None, if◌then◌else◌}
use Rattle.xp_grammar.specs.declared.kind.Kind.{Kind}
use Rattle.xp_grammar.specs.contracts.kind.ClassPartialEq.TheImpl as classes
use Rattle.xp_grammar.specs.Kinds.{has}
use Rattle.xp_grammar.specs.Table.{Level, Sym, Tok, Lev, Start, Tail, level, parts, on, turn, takes}
use Rattle.xp_grammar.specs.Table.{Level as l}
use Rattle.xp_grammar.specs.Table.{Start as s}
use Rattle.xp_grammar.specs.Table.{Tail as c}
use Rattle.xp_grammar.specs.inner.Machine.{Node, Edges, node, stop, edge, ends, to}

-- the lines, in the order in which they are tried
abbrev pub starts : List Start
starts = s.values ∷ s.store ∷ s.describe ∷ s.explain_analyze ∷ s.explain ∷ s.selects ∷ s.select ∷ s.first_item ∷ s.item ∷ s.item_as ∷ s.first_row ∷ s.first_shown ∷ s.one_or ∷ s.one_and ∷ s.not ∷ s.not_free ∷ s.test_free ∷ s.is_not_truth ∷ s.is_not_distinct ∷ s.is_truth ∷ s.is_distinct ∷ s.isnull ∷ s.notnull ∷ s.compare_free ∷ s.compared ∷ s.range_free ∷ s.not_between ∷ s.not_within ∷ s.not_like ∷ s.between ∷ s.within ∷ s.like ∷ s.other_prefix ∷ s.other_free ∷ s.prefix_prefix ∷ s.prefix ∷ s.one_sum ∷ s.one_product ∷ s.one_power ∷ s.signed ∷ s.sign_free ∷ s.operand ∷ s.constant ∷ s.column ∷ s.typed_constant ∷ s.called_empty ∷ s.called ∷ s.paren ∷ s.cast_as ∷ s.cases_else ∷ s.cases ∷ s.cases_of_else ∷ s.cases_of ∷ s.selection ∷ s.nullif ∷ s.array_empty ∷ s.array ∷ s.position ∷ s.substring_more ∷ s.substring_from_for ∷ s.substring_from ∷ s.substring_for ∷ s.substring_one ∷ s.trim_side_from ∷ s.trim_side_set_from ∷ s.trim_side_set ∷ s.trim_side ∷ s.trim_from ∷ s.trim_set_from ∷ s.trim_set ∷ s.trim ∷ s.extract ∷ s.variadic ∷ s.one_arg ∷ s.first_arm ∷ s.full_basic ∷ s.basic ∷ s.basic_scaled ∷ s.basic_sized ∷ s.plain_type ∷ s.double_type ∷ s.double_precision ∷ s.character_type ∷ s.character_varying ∷ s.moment_type ∷ s.moment_zoned ∷ []

abbrev pub turns : List Tail
turns = c.union ∷ c.next_item ∷ c.next_row ∷ c.next_shown ∷ c.or ∷ c.and ∷ c.other_then_prefix ∷ c.other_then ∷ c.added ∷ c.multiplied ∷ c.raised ∷ c.cast ∷ c.empty_brackets ∷ c.brackets ∷ c.next_variadic ∷ c.next_one ∷ c.next_arm ∷ c.full_sized_pair ∷ c.full_pair ∷ []

abbrev number : Level → ℕ
number l.Statement = 0
number l.Selects = 1
number l.Items = 2
number l.Item = 3
number l.Rows = 4
number l.Shown = 5
number l.E0 = 6
number l.E1 = 7
number l.E2 = 8
number l.E3 = 9
number l.E4 = 10
number l.E5 = 11
number l.E6 = 12
number l.P = 13
number l.E7 = 14
number l.E8 = 15
number l.E9 = 16
number l.E10 = 17
number l.E11 = 18
number l.E12 = 19
number l.Args = 20
number l.Arms = 21
number l.Full = 22
number l.Basic = 23
number l.Typename = 24

abbrev same_level : Level → Level → Bool
same_level a b = number a == number b

abbrev same_sym : Sym → Sym → Bool
same_sym (Tok a) (Tok b) = (classes.ghosts).eq a b
same_sym (Lev a) (Lev b) = same_level a b
same_sym _ _ = false

abbrev one_line : {A : Type 0} → A → List Sym → Node A
one_line x [] = ends x
one_line x (y ∷ ss) = to y (one_line x ss)

-- one line more, of these symbols
abbrev mutual
  pub with_line : {A : Type 0} → A → List Sym → Node A → Node A
  with_line x [] (node d es) = node (Some x) es
  with_line x (y ∷ ss) (node d es) = node d (with_edge x y ss es)

  pub with_edge : {A : Type 0} → A → Sym → List Sym → Edges A → Edges A
  with_edge x y ss stop = edge y (one_line x ss) stop
  with_edge x y ss (edge z n es) = if same_sym y z then edge z (with_line x ss n) es else edge z n (with_edge x y ss es)

abbrev with_starts : Level → List Start → Node Start → Node Start
with_starts m [] n = n
with_starts m (x ∷ more) n = with_starts m more (if same_level (level x) m then with_line x (parts x) n else n)

-- the lines of a level that don't begin with it
abbrev pub lines_of : Level → Node Start
lines_of m = with_starts m starts (node None stop)

abbrev edges_of : {A : Type 0} → Node A → Edges A
edges_of (node d es) = es

abbrev with_turns : Level → Bool → List Tail → Node Tail → Node Tail
with_turns m b [] n = n
with_turns m b (x ∷ more) n = with_turns m b more (if same_level (on x) m && takes x b then with_line x (turn x) n else n)

-- how a level goes on
abbrev pub turns_of : Level → Bool → Edges Tail
turns_of m b = edges_of (with_turns m b turns (node None stop))

-- whether a line of the level begins so
abbrev some_line : (List Sym → Bool) → Level → List Start → Bool
some_line f m [] = false
some_line f m (x ∷ more) = (same_level (level x) m && f (parts x)) || some_line f m more

-- whether the symbols begin with this kind, through so many levels
abbrev begins_by : ℕ → Kind → List Sym → Bool
begins_by n a [] = false
begins_by n a (Tok b ∷ ss) = has b a
begins_by zero a (Lev m ∷ ss) = false
begins_by (suc n) a (Lev m ∷ ss) = some_line (begins_by n a) m starts

-- no more than 15 levels begin with one another
unfoldable pub begins : Level → Kind → Bool
begins m a = begins_by 15 a (Lev m ∷ [])
