use Rattle.std.proofs.Common.{rules, ◌≡◌, ◌++◌, ◌∷◌, ◌∙◌, drop, ap, sym, pos, true, false, unsigned_abs, FitsSigned}
use Rattle.std.proofs.lemmas.Int.{to_z-of_z}
use Rattle.std.specs.Fmt.{decimal}
use Rattle.std.specs.Int.Signed.{lt_z}
use mir.Syntax.{w128}
use Rattle.st_values.proofs.Laid.{digits-ten, signed_text-above, signed_text-below}
use Rattle.st_values.proofs.put.lay_signed.Goals as goal

pub returns-then-number-lt0-clause-laid : goal.returns-then-number-lt0-clause-laid
returns-then-number-lt0-clause-laid c =
    let fits : FitsSigned w128 c.args.number = search rules in
    let below : lt_z c.args.number (pos 0) ≡ true = simp to_z-of_z at c.if-number-lt0.true in
    let magnitude : c.unsigned_abs.result ≡ unsigned_abs c.args.number = simp to_z-of_z at c.unsigned_abs.ensures.value in
    c.lay.ensures.laid ∙ ap (λ ds. 45 ∷ ds) (c.lay_digits-start.ensures.laid
    ∙ ap (λ ds. ds ++ drop c.args.end c.args.buffer.now) (digits-ten c.unsigned_abs.result ∙ ap decimal magnitude))
    ∙ ap (λ ds. ds ++ drop c.args.end c.args.buffer.now) (sym (signed_text-below c.args.number below))

pub returns-else-number-lt0-clause-laid : goal.returns-else-number-lt0-clause-laid
returns-else-number-lt0-clause-laid c =
    let fits : FitsSigned w128 c.args.number = search rules in
    let above : lt_z c.args.number (pos 0) ≡ false = simp to_z-of_z at c.if-number-lt0.false in
    let magnitude : c.unsigned_abs.result ≡ unsigned_abs c.args.number = simp to_z-of_z at c.unsigned_abs.ensures.value in
    c.lay_digits-start.ensures.laid
    ∙ ap (λ ds. ds ++ drop c.args.end c.args.buffer.now) (digits-ten c.unsigned_abs.result ∙ ap decimal magnitude ∙ sym (signed_text-above c.args.number above))
