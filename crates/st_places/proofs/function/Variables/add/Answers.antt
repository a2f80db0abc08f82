use Rattle.std.proofs.Common.{◌≡◌, ◌∙◌, ◌++◌, ◌∷◌, [], ℕ, List, ap, refl, sym}
use Rattle.std.proofs.lemmas.Result.{on_ok_weaker}
use Rattle.st_scopes.specs.Declarations.{seen}
use Rattle.st_types.specs.Names.{units_of}
use Rattle.st_places.proofs.Variables.{constant_last, input_last, no_value_last, value_last}
use Rattle.st_places.proofs.function.Variables.add.Goals as goal

pub returns-then-is_constant : goal.returns-then-is_constant
returns-then-is_constant c = λ e vs has.
    constant_last (units_of c.args.tables.now) e vs (seen c.args.declared.now) c.args.self.now c.args.self.now (sym c.is_constant.ensures ∙ c.if-is_constant.true) refl has

pub returns-in_default : goal.returns-in_default
returns-in_default c = λ e vs has.
    no_value_last (units_of c.args.tables.now) e vs (seen c.args.declared.now) c.args.self.now c.args.self.now (sym c.is_constant.ensures ∙ c.if-is_constant.false)
    (sym c.value_of.ensures ∙ c.in_default.is) refl has

pub returns-then-not-is_input : goal.returns-then-not-is_input
returns-then-not-is_input c =
    on_ok_weaker c.push.result (λ more e vs has.
    value_last (units_of c.args.tables.now) e vs (seen c.args.declared.now) c.args.self.now
    (record { names = c.args.self.now.names; initials = c.args.self.now.initials; starts = c.push.new.self }) c.in-Some.value
    (sym c.is_constant.ensures ∙ c.if-is_constant.false) (sym c.value_of.ensures ∙ c.in-Some.is) (sym c.is_input.ensures ∙ c.if-not-is_input.true) refl refl more has) c.push.ensures.ok

pub returns : goal.returns
returns c =
    let named : c.push-2.new.self ≡ c.args.self.now.names ++ (seen c.args.declared.now).name.spelling ∷ [] =
    c.in_ok-push.ensures.ok ∙ ap (λ (name : List ℕ). c.args.self.now.names ++ name ∷ []) c.as_slice.ensures in
    on_ok_weaker c.push-4.result (λ more e vs has.
    input_last (units_of c.args.tables.now) e vs (seen c.args.declared.now) c.args.self.now
    (record { names = c.push-2.new.self; initials = c.push-3.new.self; starts = c.push-4.new.self }) c.in-Some.value
    (sym c.is_constant.ensures ∙ c.if-is_constant.false) (sym c.value_of.ensures ∙ c.in-Some.is) (sym c.is_input.ensures ∙ c.if-not-is_input.false) named c.in_ok-push-2.ensures.ok more has)
    c.push-4.ensures.ok
