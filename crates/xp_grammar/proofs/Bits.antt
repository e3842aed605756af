-- Tests, and tests of every kind.
use Rattle.std.proofs.Common.{◌≡◌, ℕ, zero, suc, Bool, true, false, not, ◌&&◌, ◌||◌, List, [], ◌∷◌, ◌++◌, map, Option, Some, None, refl, subst, arith}
use Rattle.std.proofs.lemmas.Bool.{and_parts}
use Rattle.xp_token.specs.declared.token.Mark.{Mark}
use Rattle.xp_token.specs.declared.token.Mark.TheVariants as m
use Rattle.xp_token.specs.declared.words.Word.{Word}
use Rattle.xp_token.specs.declared.words.Word.TheVariants as w
use Rattle.xp_token.specs.Words.{words}
use Rattle.xp_grammar.specs.declared.kind.Kind.{Kind}
use Rattle.xp_grammar.specs.declared.kind.Kind.TheVariants as k

abbrev pub implies : Bool → Bool → Bool
implies a b = not a || b

pub implied : (a b : Bool) → implies a b ≡ true → a ≡ true → b ≡ true
implied a b e h = grind arith

pub implied_false : (a b : Bool) → implies a b ≡ true → b ≡ false → a ≡ false
implied_false a b e h = grind arith

abbrev marks : List Mark
marks = m.OpenParen ∷ m.CloseParen ∷ m.OpenBracket ∷ m.CloseBracket ∷ m.Comma ∷ m.DoubleColon ∷ m.Point ∷ []

abbrev reserved : List (List ℕ × Word) → List Kind
reserved [] = []
reserved (p ∷ more) = k.Word p.1 ∷ reserved more

abbrev pub kinds : List Kind
kinds = k.Whole ∷ k.Decimal ∷ k.Wide ∷ k.String ∷ k.Name ∷ k.Double ∷ k.Precision ∷ k.Character ∷ k.Varying ∷ k.Timestamp ∷ k.Time ∷ k.With ∷ k.Without ∷ k.Zone ∷ k.Quoted ∷ k.Sign ∷ k.Times ∷ k.Power ∷ k.Compare ∷ k.Other ∷ k.Arrow ∷ k.EndOfStatement ∷ k.Nothing ∷ (map (λ a. k.Mark a) marks ++ reserved words)

abbrev pub nth : {A : Type 0} → ℕ → List A → Option A
nth n [] = None
nth zero (a ∷ more) = Some a
nth (suc n) (a ∷ more) = nth n more

abbrev pub each : (Kind → Bool) → List Kind → Bool
each p [] = true
each p (a ∷ more) = p a && each p more

abbrev pub every : (Kind → Bool) → Bool
every p = each p kinds

pub some_same : {A : Type 0} (a b : A) → Some a ≡ Some b → a ≡ b
some_same a b e = grind arith

each_at : (p : Kind → Bool) (all : List Kind) (n : ℕ) (a : Kind) → each p all ≡ true → nth n all ≡ Some a → p a ≡ true
each_at p [] n a e h = grind arith
each_at p (b ∷ more) zero a e h = subst (λ z. p z ≡ true) (some_same b a h) (and_parts (p b) (each p more) e).0
each_at p (b ∷ more) (suc n) a e h = each_at p more n a (and_parts (p b) (each p more) e).1 h

kind_at : (a : Kind) → (n : ℕ) × (nth n kinds ≡ Some a)
kind_at k.Whole = (0, refl)
kind_at k.Decimal = (1, refl)
kind_at k.Wide = (2, refl)
kind_at k.String = (3, refl)
kind_at k.Name = (4, refl)
kind_at k.Double = (5, refl)
kind_at k.Precision = (6, refl)
kind_at k.Character = (7, refl)
kind_at k.Varying = (8, refl)
kind_at k.Timestamp = (9, refl)
kind_at k.Time = (10, refl)
kind_at k.With = (11, refl)
kind_at k.Without = (12, refl)
kind_at k.Zone = (13, refl)
kind_at k.Quoted = (14, refl)
kind_at k.Sign = (15, refl)
kind_at k.Times = (16, refl)
kind_at k.Power = (17, refl)
kind_at k.Compare = (18, refl)
kind_at k.Other = (19, refl)
kind_at k.Arrow = (20, refl)
kind_at k.EndOfStatement = (21, refl)
kind_at k.Nothing = (22, refl)
kind_at (k.Mark m.OpenParen) = (23, refl)
kind_at (k.Mark m.CloseParen) = (24, refl)
kind_at (k.Mark m.OpenBracket) = (25, refl)
kind_at (k.Mark m.CloseBracket) = (26, refl)
kind_at (k.Mark m.Comma) = (27, refl)
kind_at (k.Mark m.DoubleColon) = (28, refl)
kind_at (k.Mark m.Point) = (29, refl)
kind_at (k.Word w.All) = (30, refl)
kind_at (k.Word w.Analyze) = (31, refl)
kind_at (k.Word w.And) = (32, refl)
kind_at (k.Word w.Array) = (33, refl)
kind_at (k.Word w.As) = (34, refl)
kind_at (k.Word w.Between) = (35, refl)
kind_at (k.Word w.Both) = (36, refl)
kind_at (k.Word w.Case) = (37, refl)
kind_at (k.Word w.Cast) = (38, refl)
kind_at (k.Word w.Coalesce) = (39, refl)
kind_at (k.Word w.Describe) = (40, refl)
kind_at (k.Word w.Distinct) = (41, refl)
kind_at (k.Word w.Else) = (42, refl)
kind_at (k.Word w.End) = (43, refl)
kind_at (k.Word w.Explain) = (44, refl)
kind_at (k.Word w.Extract) = (45, refl)
kind_at (k.Word w.False) = (46, refl)
kind_at (k.Word w.For) = (47, refl)
kind_at (k.Word w.From) = (48, refl)
kind_at (k.Word w.Greatest) = (49, refl)
kind_at (k.Word w.Ilike) = (50, refl)
kind_at (k.Word w.In) = (51, refl)
kind_at (k.Word w.Is) = (52, refl)
kind_at (k.Word w.Isnull) = (53, refl)
kind_at (k.Word w.Leading) = (54, refl)
kind_at (k.Word w.Least) = (55, refl)
kind_at (k.Word w.Like) = (56, refl)
kind_at (k.Word w.Not) = (57, refl)
kind_at (k.Word w.Notnull) = (58, refl)
kind_at (k.Word w.Null) = (59, refl)
kind_at (k.Word w.Nullif) = (60, refl)
kind_at (k.Word w.Or) = (61, refl)
kind_at (k.Word w.Position) = (62, refl)
kind_at (k.Word w.Select) = (63, refl)
kind_at (k.Word w.Store) = (64, refl)
kind_at (k.Word w.Substring) = (65, refl)
kind_at (k.Word w.Then) = (66, refl)
kind_at (k.Word w.Trailing) = (67, refl)
kind_at (k.Word w.Trim) = (68, refl)
kind_at (k.Word w.True) = (69, refl)
kind_at (k.Word w.Union) = (70, refl)
kind_at (k.Word w.Unknown) = (71, refl)
kind_at (k.Word w.Values) = (72, refl)
kind_at (k.Word w.Variadic) = (73, refl)
kind_at (k.Word w.When) = (74, refl)

pub every_at : (p : Kind → Bool) → every p ≡ true → (a : Kind) → p a ≡ true
every_at p e a = let spot = kind_at a in each_at p kinds spot.0 a e spot.1
