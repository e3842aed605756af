-- The depth of a list of tokens, by which the height of the parser's calls is bounded (this project's own).
--
-- A joint is an operator, `::`, a `[` that doesn't stand behind the word ARRAY, or one of AND OR NOT IS ISNULL NOTNULL BETWEEN IN LIKE ILIKE.
-- A group goes from `(`, `[` or CASE to its `)`, `]` or END. A section is what stands between commas and the words WHEN THEN ELSE UNION directly in a group, or in the whole list.
-- A section is as deep as the joints directly in it and the deepest group directly in it together; a group is deeper by 1 than its deepest section; a list is as deep as its deepest section.
-- At the end of a list all open groups are closed, and a closing token where no group is open counts nothing.
use Rattle.std.specs.Prelude.{ℕ, ◌+◌, max, nat_lt, List, [], ◌∷◌, Option, Some, None, if◌then◌else◌}
use Rattle.xp_base.specs.declared.limits.TheConstants.{DEPTH_LIMIT}
use Rattle.xp_token.specs.declared.token.Token.{Token}
use Rattle.xp_token.specs.declared.words.Word.{Word}
use Rattle.xp_token.specs.declared.words.Word.TheVariants as word
use Rattle.xp_token.specs.declared.token.Mark.{Mark}
use Rattle.xp_token.specs.declared.token.Mark.TheVariants as mark
use Rattle.xp_grammar.specs.declared.kind.Kind.{Kind}
use Rattle.xp_grammar.specs.declared.kind.Kind.TheVariants as k
use Rattle.xp_grammar.specs.Kinds.{kind, same}
use Rattle.xp_depth.specs.declared.depth.Part.{Part}
use Rattle.xp_depth.specs.declared.depth.Role.{Role}
use Rattle.xp_depth.specs.declared.depth.Role.TheVariants.{Plain, Joint, Bracket, Opening, Closing, Divider}

-- what a reserved word does
abbrev pub word_role : Word → Role
word_role word.And = Joint
word_role word.Or = Joint
word_role word.Not = Joint
word_role word.Is = Joint
word_role word.Isnull = Joint
word_role word.Notnull = Joint
word_role word.Between = Joint
word_role word.In = Joint
word_role word.Like = Joint
word_role word.Ilike = Joint
word_role word.Case = Opening
word_role word.End = Closing
word_role word.When = Divider
word_role word.Then = Divider
word_role word.Else = Divider
word_role word.Union = Divider
word_role _ = Plain

-- what a mark does behind a token of a kind
abbrev pub mark_role : Kind → Mark → Role
mark_role before mark.DoubleColon = Joint
mark_role before mark.OpenBracket = if same before (k.Word word.Array) then Opening else Bracket
mark_role before mark.OpenParen = Opening
mark_role before mark.CloseParen = Closing
mark_role before mark.CloseBracket = Closing
mark_role before mark.Comma = Divider
mark_role before _ = Plain

-- what a token of the second kind does behind one of the first
abbrev pub role_of : Kind → Kind → Role
role_of before k.Sign = Joint
role_of before k.Times = Joint
role_of before k.Power = Joint
role_of before k.Compare = Joint
role_of before k.Other = Joint
role_of before k.Arrow = Joint
role_of before (k.Word w) = word_role w
role_of before (k.Mark m) = mark_role before m
role_of before _ = Plain

-- a part of a group: the joints of its last section, the deepest group in that section, and the deepest of the sections before
abbrev pub nothing : Part
nothing = record { joints = 0; inner = 0; others = 0 }

abbrev pub deepest : Part → ℕ
deepest p = max p.others (p.joints + p.inner)

abbrev pub with_joint : Part → Part
with_joint p = record { joints = p.joints + 1; inner = p.inner; others = p.others }

abbrev pub with_group : ℕ → Part → Part
with_group depth p = record { joints = p.joints; inner = max p.inner depth; others = p.others }

abbrev pub divided : Part → Part
divided p = record { joints = 0; inner = 0; others = deepest p }

-- the part of the innermost open group, and the parts around it, the innermost first; the last is the whole list's
pub record Groups : Type 0 where
  pub part : Part
  pub outer : List Part

-- how deep the list is, all open groups being closed
abbrev pub closed : Part → List Part → ℕ
closed p [] = deepest p
closed p (q ∷ qs) = closed (with_group (deepest p + 1) q) qs

abbrev pub depth_of : Groups → ℕ
depth_of g = closed g.part g.outer

abbrev pub left : Part → List Part → Groups
left p [] = record { part = p; outer = [] }
left p (q ∷ qs) = record { part = with_group (deepest p + 1) q; outer = qs }

abbrev pub step : Role → Groups → Groups
step Plain g = g
step Joint g = record { part = with_joint g.part; outer = g.outer }
step Bracket g = record { part = nothing; outer = with_joint g.part ∷ g.outer }
step Opening g = record { part = nothing; outer = g.part ∷ g.outer }
step Closing g = left g.part g.outer
step Divider g = record { part = divided g.part; outer = g.outer }

-- the groups behind these tokens, of which the first stands behind one of this kind
abbrev pub groups : Kind → Groups → List Token → Groups
groups before g [] = g
groups before g (t ∷ ts) = groups (kind t) (step (role_of before (kind t)) g) ts

abbrev pub start : Groups
start = record { part = nothing; outer = [] }

unfoldable pub depth : List Token → ℕ
depth ts = depth_of (groups k.Nothing start ts)

-- the place of the first token at which the depth passes its limit, where the tokens begin at `at`
abbrev pub deep_from : ℕ → Kind → Groups → List Token → Option ℕ
deep_from at before g [] = None
deep_from at before g (t ∷ ts) =
    if nat_lt DEPTH_LIMIT (depth_of (step (role_of before (kind t)) g)) then Some at
    else deep_from (at + 1) (kind t) (step (role_of before (kind t)) g) ts

unfoldable pub first_deep : List Token → Option ℕ
first_deep ts = deep_from 0 k.Nothing start ts
