-- By the kind of statement.
use Rattle.std.proofs.Common.{◌≡◌, List, Result}
use Rattle.xp_base.specs.OrMemory.{OrMemory}
use Rattle.xp_base.specs.declared.numbers.Span.{Span}
use Rattle.xp_catalog.specs.declared.header.HeaderColumn.{HeaderColumn}
use Rattle.xp_catalog.specs.Contents.{Contents}
use Rattle.xp_grammar.specs.declared.ast.Ast.{Ast}
use Rattle.xp_grammar.specs.declared.statement.Item.{Item}
use Rattle.xp_grammar.specs.declared.statement.SelectArm.{SelectArm}
use Rattle.xp_grammar.specs.declared.statement.Statement.{Statement}
use Rattle.xp_grammar.specs.declared.statement.Statement.TheVariants.{Select, UnionAll, Values, Store, Describe}
use Rattle.xp_grammar.specs.declared.types.TypeWords.{TypeWords}
use Rattle.xp_named.specs.declared.refusal.Refusal.{Refusal}
use Rattle.xp_tree.specs.declared.checks.DomainCheck.{DomainCheck}
use Rattle.xp_resolve.specs.Made.{is_memory}
use Rattle.xp_resolve.specs.Scene.{Scene}
use Rattle.xp_analyse.specs.declared.typed.Typed.{Typed}
use Rattle.xp_analyse.specs.Statements.{analysed, analysed_lists, scene_of, stored}

pub selects : (c : Contents) (checks : List DomainCheck) (columns : List HeaderColumn) (s : Statement) (at : Span) (items : List Item) (scene : Scene) (r : Result Typed Refusal)
    → s ≡ Select at items → scene ≡ scene_of c checks columns s → OrMemory is_memory (analysed_lists scene s) r → OrMemory is_memory (analysed c checks columns s) r
unfolding analysed
selects c checks columns s at items scene r is place e = rw is (rw (place, is) at e)

pub unites : (c : Contents) (checks : List DomainCheck) (columns : List HeaderColumn) (s : Statement) (at : Span) (arms : List SelectArm) (scene : Scene) (r : Result Typed Refusal)
    → s ≡ UnionAll at arms → scene ≡ scene_of c checks columns s → OrMemory is_memory (analysed_lists scene s) r → OrMemory is_memory (analysed c checks columns s) r
unfolding analysed
unites c checks columns s at arms scene r is place e = rw is (rw (place, is) at e)

pub values : (c : Contents) (checks : List DomainCheck) (columns : List HeaderColumn) (s : Statement) (at : Span) (lists : List (List Ast)) (scene : Scene) (r : Result Typed Refusal)
    → s ≡ Values at lists → scene ≡ scene_of c checks columns s → OrMemory is_memory (analysed_lists scene s) r → OrMemory is_memory (analysed c checks columns s) r
unfolding analysed
values c checks columns s at lists scene r is place e = rw is (rw (place, is) at e)

pub describes : (c : Contents) (checks : List DomainCheck) (columns : List HeaderColumn) (s : Statement) (at : Span) (expressions : List Ast) (scene : Scene) (r : Result Typed Refusal)
    → s ≡ Describe at expressions → scene ≡ scene_of c checks columns s → OrMemory is_memory (analysed_lists scene s) r → OrMemory is_memory (analysed c checks columns s) r
unfolding analysed
describes c checks columns s at expressions scene r is place e = rw is (rw (place, is) at e)

pub stores : (c : Contents) (checks : List DomainCheck) (columns : List HeaderColumn) (s : Statement) (at : Span) (words : TypeWords) (source : Ast) (scene : Scene) (r : Result Typed Refusal)
    → s ≡ Store at words source → scene ≡ scene_of c checks columns s → OrMemory is_memory (stored scene words source) r → OrMemory is_memory (analysed c checks columns s) r
unfolding analysed
stores c checks columns s at words source scene r is place e = rw is (rw (place, is) at e)
