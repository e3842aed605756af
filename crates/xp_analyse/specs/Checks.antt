-- The checks of a catalogue's domains: each is one expression over VALUE that is a truth value and can be evaluated (manual, CREATE DOMAIN; how it is read, and what it may hold, is this project's own).
use Rattle.std.specs.Prelude.{ℕ, ◌+◌, ◌-◌, ◌==◌, List, [], ◌∷◌, ◌++◌, Bool, true, false, ◌&&◌, not, cond, codes, length, nat_le, Option, Some, None, option_and_then, Result, Ok, Err, slice_get}
use Rattle.std.specs.Option.{option_map_or}
use Rattle.xp_base.specs.FromLeft.{and_then}
use Rattle.xp_base.specs.declared.limits.TheConstants.{SCRIPT_LIMIT}
use Rattle.xp_base.specs.declared.numbers.RowNo.{RowNo}
use Rattle.xp_base.specs.declared.numbers.TypeNo.{TypeNo}
use Rattle.xp_call.specs.Calls.{is_built as has_body}
use Rattle.xp_catalog.specs.declared.rows.DomainRow.{DomainRow}
use Rattle.xp_catalog.specs.Contents.{Contents}
use Rattle.xp_catalog.specs.Lookups.{type_named}
use Rattle.xp_grammar.specs.declared.ast.Ast.{Ast}
use Rattle.xp_grammar.specs.declared.statement.Statement.{Statement}
use Rattle.xp_grammar.specs.declared.statement.Statement.TheVariants.{Describe}
use Rattle.xp_lexer.specs.declared.lexed.LexFault.{LexFault}
use Rattle.xp_lexer.specs.Lexed.{lexed}
use Rattle.xp_meaning.specs.Evaluable.{is_evaluable}
use Rattle.xp_named.specs.declared.refusal.Refusal.{Refusal}
use Rattle.xp_parser.specs.declared.fault.ParseFault.{ParseFault}
use Rattle.xp_parser.specs.Parses.{parsed}
use Rattle.xp_token.specs.Held.{tokens_of}
use Rattle.xp_token.specs.Lexemes.{Placed}
use Rattle.xp_tree.specs.declared.checks.DomainCheck.{DomainCheck}
use Rattle.xp_tree.specs.Term.{Term, type_of}
use Rattle.xp_types.specs.Readers.{is_same}
use Rattle.xp_resolve.specs.declared.made.Made.{Made}
use Rattle.xp_resolve.specs.Scene.{Scene}
use Rattle.xp_expressions.specs.Expressions.{resolved}
use Rattle.xp_expressions.specs.Operands.{nothing_yet}
use Rattle.xp_analyse.specs.declared.fault.CheckFault.{CheckFault}
use Rattle.xp_analyse.specs.declared.fault.CheckFault.TheVariants.{BadCheck, Memory}
use Rattle.xp_analyse.specs.Domains.{has_domain}

-- ---- the expression that a text is: the one that DESCRIBE before it describes

abbrev pub statement_text : List ℕ → List ℕ
statement_text check = codes "DESCRIBE " ++ check

abbrev pub described_one : Statement → Option Ast
described_one (Describe at (expression ∷ [])) = Some expression
described_one _ = None

abbrev pub one_parsed : Result Statement ParseFault → Option Ast
one_parsed (Ok statement) = described_one statement
one_parsed (Err fault) = None

-- the End stands behind the text, and for no `;`
abbrev pub ends_behind : ℕ → List Placed → Bool
ends_behind end tokens = option_map_or (λ (last : Placed). last.start == end) (slice_get tokens (length tokens - 1)) false

abbrev pub one_of_tokens : ℕ → List Placed → Option Ast
one_of_tokens end tokens = cond (ends_behind end tokens) (one_parsed (parsed (tokens_of tokens))) None

abbrev pub one_lexed : ℕ → Result (List Placed × ℕ) LexFault → Option Ast
one_lexed end (Ok read) = one_of_tokens end read.0
one_lexed end (Err fault) = None

-- a statement is no longer than a script may be
abbrev pub expression_of : List ℕ → Option Ast
expression_of text = cond (nat_le (length text) SCRIPT_LIMIT) (one_lexed (length text) (lexed text 0)) None

-- ---- the tree of an expression, where it may be a check

-- of the type named bool, which is no domain
abbrev pub is_truth : Contents → TypeNo → Bool
is_truth c type = option_map_or (is_same type) (type_named c (codes "bool")) false

-- it looks at no domain, and it can be evaluated
abbrev pub may_check : Contents → Term → Bool
may_check c t = is_truth c (type_of t).no && not (has_domain t) && is_evaluable has_body t

abbrev pub kept : Contents → Term → Option Term
kept c t = cond (may_check c t) (Some t) None

abbrev pub kept_made : Contents → Result Made Refusal → Option Term
kept_made c (Ok made) = kept c made.part.tree
kept_made c (Err refusal) = None

abbrev pub check_tree : Scene → Ast → Option Term
check_tree scene expression = kept_made scene.c (resolved scene expression nothing_yet)

-- ---- the check of a domain, behind those of the domains before it

-- VALUE is of the type that the domain is over, and there are no columns
abbrev pub scene_over : Contents → List DomainCheck → TypeNo → Scene
scene_over c before base = record { c = c; checks = before; columns = []; value = Some base; start = 0 }

abbrev pub check_of : Contents → List DomainCheck → DomainRow → Option Term
check_of c before domain = option_and_then (check_tree (scene_over c before domain.base)) (expression_of (statement_text domain.check))

abbrev pub with_last : List DomainCheck → RowNo → Term → List DomainCheck
with_last before number check = before ++ record { domain = number; check = check } ∷ []

-- a domain without a text for its check has none; a check that can't be one is refused at the line of its domain
abbrev pub with_check : Contents → List DomainCheck → RowNo → DomainRow → Result (List DomainCheck) CheckFault
with_check c before number domain =
    cond (length domain.check == 0) (Ok before) (option_map_or (λ check. Ok (with_last before number check)) (check_of c before domain) (Err (BadCheck domain.line)))

-- ---- all of them, domain by domain, up to and with the first that is refused

abbrev pub prepared_from : Contents → List DomainCheck → ℕ → List DomainRow → Result (List DomainCheck) CheckFault
prepared_from c before number [] = Ok before
prepared_from c before number (domain ∷ others) = and_then (with_check c before (record { 0 = number }) domain) (λ checks. prepared_from c checks (number + 1) others)

abbrev pub prepared : Contents → Result (List DomainCheck) CheckFault
prepared c = prepared_from c [] 0 c.domains

-- want of memory, among the faults
abbrev pub is_memory : CheckFault → Bool
is_memory Memory = true
is_memory (BadCheck line) = false
