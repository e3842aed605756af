-- What trees mean over the bodies and the text forms that are built.
use Rattle.std.specs.Prelude.{List, map, Option}
use Rattle.xp_base.specs.declared.codes.EvalError.{EvalError}
use Rattle.xp_tree.specs.Term.{Term}
use Rattle.xp_call.specs.Calls.{body_outcome}
use Rattle.xp_io.specs.Forms.{input, output}
use Rattle.xp_meaning.specs.Early.{at_once, early, first_error}
use Rattle.xp_meaning.specs.Primitives.{Primitives}
use Rattle.xp_eval.specs.Sizes.{sized_to}

unfoldable pub real : Primitives
real = record { body = body_outcome; read = input; write = output; size = sized_to }

-- the error of the first of these constant trees that raises
abbrev pub first_raised : List Term → Option EvalError
first_raised parts = first_error (map (at_once real) parts)

-- the error of the first early part that raises
abbrev pub early_error : Term → Option EvalError
early_error t = first_raised (early real t)
