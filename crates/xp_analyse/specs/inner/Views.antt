-- What the program goes over of a statement: its expressions as they stand in it.
use Rattle.std.specs.Prelude.{List, [], ◌∷◌, map}
use Rattle.xp_grammar.specs.declared.ast.Ast.{Ast}
use Rattle.xp_grammar.specs.declared.statement.SelectArm.{SelectArm}
use Rattle.xp_analyse.specs.declared.lists.ExpressionList.{ExpressionList}
use Rattle.xp_analyse.specs.declared.lists.ExpressionList.TheVariants.{Items, Plain}
use Rattle.xp_analyse.specs.declared.lists.ExpressionLists.{ExpressionLists}
use Rattle.xp_analyse.specs.declared.lists.ExpressionLists.TheVariants.{One, Arms, Lists}
use Rattle.xp_analyse.specs.Lists.{items_of}

abbrev pub list_in : ExpressionList → List Ast
list_in (Items items) = items_of items.now
list_in (Plain expressions) = expressions.now

abbrev pub lists_in : ExpressionLists → List (List Ast)
lists_in (One list) = list_in list ∷ []
lists_in (Arms arms) = map (λ (arm : SelectArm). items_of arm.items) arms.now
lists_in (Lists lists) = lists.now
