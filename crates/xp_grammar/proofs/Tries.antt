-- What is written out for reading is what the table gives.
use Rattle.std.proofs.Common.{◌≡◌, Bool, true, false, not, ◌&&◌, ◌||◌, refl, arith}
use Rattle.xp_grammar.specs.declared.kind.Kind.{Kind}
use Rattle.xp_grammar.specs.Table.{Level}
use Rattle.xp_grammar.specs.Table.{Level as l}
use Rattle.xp_grammar.specs.inner.Machine.{trie, tails, first}
use Rattle.xp_grammar.specs.inner.Tries.{lines_of, turns_of, begins}
use Rattle.xp_grammar.proofs.Bits.{every, every_at}

pub trie_is : (m : Level) → trie m ≡ lines_of m
trie_is l.Statement = refl
trie_is l.Selects = refl
trie_is l.Items = refl
trie_is l.Item = refl
trie_is l.Rows = refl
trie_is l.Shown = refl
trie_is l.E0 = refl
trie_is l.E1 = refl
trie_is l.E2 = refl
trie_is l.E3 = refl
trie_is l.E4 = refl
trie_is l.E5 = refl
trie_is l.E6 = refl
trie_is l.P = refl
trie_is l.E7 = refl
trie_is l.E8 = refl
trie_is l.E9 = refl
trie_is l.E10 = refl
trie_is l.E11 = refl
trie_is l.E12 = refl
trie_is l.Args = refl
trie_is l.Arms = refl
trie_is l.Full = refl
trie_is l.Basic = refl
trie_is l.Typename = refl

pub tails_is : (m : Level) (b : Bool) → tails m b ≡ turns_of m b
tails_is l.Statement b = refl
tails_is l.Selects b = refl
tails_is l.Items b = refl
tails_is l.Item b = refl
tails_is l.Rows b = refl
tails_is l.Shown b = refl
tails_is l.E0 b = refl
tails_is l.E1 b = refl
tails_is l.E2 b = refl
tails_is l.E3 b = refl
tails_is l.E4 b = refl
tails_is l.E5 b = refl
tails_is l.E6 b = refl
tails_is l.P b = refl
tails_is l.E7 b = refl
tails_is l.E8 b = refl
tails_is l.E9 b = refl
tails_is l.E10 b = refl
tails_is l.E11 true = refl
tails_is l.E11 false = refl
tails_is l.E12 b = refl
tails_is l.Args true = refl
tails_is l.Args false = refl
tails_is l.Arms b = refl
tails_is l.Full b = refl
tails_is l.Basic b = refl
tails_is l.Typename b = refl

abbrev agree : Bool → Bool → Bool
agree a b = (a && b) || (not a && not b)

agreed : (a b : Bool) → agree a b ≡ true → a ≡ b
agreed a b e = grind arith

firsts : (m : Level) → every (λ a. agree (first m a) (begins m a)) ≡ true
unfolding first begins
firsts l.Statement = refl
firsts l.Selects = refl
firsts l.Items = refl
firsts l.Item = refl
firsts l.Rows = refl
firsts l.Shown = refl
firsts l.E0 = refl
firsts l.E1 = refl
firsts l.E2 = refl
firsts l.E3 = refl
firsts l.E4 = refl
firsts l.E5 = refl
firsts l.E6 = refl
firsts l.P = refl
firsts l.E7 = refl
firsts l.E8 = refl
firsts l.E9 = refl
firsts l.E10 = refl
firsts l.E11 = refl
firsts l.E12 = refl
firsts l.Args = refl
firsts l.Arms = refl
firsts l.Full = refl
firsts l.Basic = refl
firsts l.Typename = refl

pub first_is : (m : Level) (a : Kind) → first m a ≡ begins m a
first_is m a = agreed (first m a) (begins m a) (every_at (λ b. agree (first m b) (begins m b)) (firsts m) a)
