use Rattle.std.proofs.Common.{◌∙◌, ap, sym}
use Rattle.st_meaning.specs.Typing.{Typed, place_of}
use Rattle.st_emit_expressions.specs.Trees.{whole_of}
use Rattle.st_emit_expressions.proofs.Owns.{is_constant, is_place, is_step}
use Rattle.st_emit_expressions.proofs.own.own_of_variable.Goals as goal

pub returns-in-Some : goal.returns-in-Some
returns-in-Some c =
    let w = whole_of c.args.scope.now in
    ap (λ (x : Typed). x.own) (sym (is_constant w (place_of w c.args.variable.now) c.constant_named.result c.in-Some.value c.constant_named.ensures.value c.in-Some.is))

pub returns-in-Some-place_type : goal.returns-in-Some-place_type
returns-in-Some-place_type c =
    let w = whole_of c.args.scope.now in
    ap (λ (x : Typed). x.own)
    (sym (is_place w (place_of w c.args.variable.now) c.constant_named.result c.in-Some-place_type.elem c.constant_named.ensures.value c.in_default.is (sym c.place_type.ensures ∙ c.in-Some-place_type.is)))

pub returns : goal.returns
returns c =
    let w = whole_of c.args.scope.now in
    c.step_type.ensures
    ∙ ap (λ (x : Typed). x.own) (sym (is_step w (place_of w c.args.variable.now) c.constant_named.result c.constant_named.ensures.value c.in_default.is (sym c.place_type.ensures ∙ c.in_default-place_type.is)))
