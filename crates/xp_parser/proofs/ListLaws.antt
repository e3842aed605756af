-- What is read of lists and arguments.
use Rattle.std.proofs.Common.{◌≡◌, true, false, List, [], ◌∷◌, Ok}
use Rattle.xp_token.specs.declared.token.Token.{Token}
use Rattle.xp_grammar.specs.declared.ast.Ast.{Ast}
use Rattle.xp_grammar.specs.Table.{Trees, Given, with_shown}
use Rattle.xp_grammar.specs.Table.{Level as l}
use Rattle.xp_grammar.specs.inner.Machine.{◌>>=◌, parse, more}
use Rattle.xp_grammar.proofs.Straight.{reach, again, parse_straight, more_straight}
use Rattle.xp_parser.specs.inner.Parts.{more_shown_part, args_part, more_args_part}

pub shown_is : (ts : List Token) → parse l.Shown ts ≡ (parse l.E0 >>= (λ v. more l.Shown (with_shown (Trees []) (v ∷ [])))) ts
unfolding reach more
shown_is ts = parse_straight l.Shown ts

pub more_shown : (all : List Ast) (ts : List Token) → more l.Shown (Trees all) ts ≡ more_shown_part all ts
unfolding reach again more_shown_part
more_shown all ts = more_straight l.Shown (Trees all) ts

pub args_is : (ts : List Token) → parse l.Args ts ≡ args_part [] ts
unfolding reach more args_part
args_is ts = parse_straight l.Args ts

pub more_args : (all : List Ast) (ts : List Token) → more l.Args (Given all false) ts ≡ more_args_part all ts
unfolding reach again args_part more_args_part
more_args all ts = more_straight l.Args (Given all false) ts

pub args_end : (all : List Ast) (ts : List Token) → more l.Args (Given all true) ts ≡ Ok (Given all true, ts)
unfolding again
args_end all ts = more_straight l.Args (Given all true) ts
