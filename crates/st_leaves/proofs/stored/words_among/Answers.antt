use Rattle.std.proofs.Common.{ap, sym, ◌∙◌}
use Rattle.std.specs.List.{list_any}
use Rattle.std.specs.Option.{is_some}
use Rattle.st_values.specs.Words.{is_word}
use Rattle.st_types.specs.Tables.{first_of}
use Rattle.st_leaves.specs.Charts.{spelled}
use Rattle.st_leaves.proofs.NamesOnce.{found, kept_more, left_out}
use Rattle.st_leaves.proofs.stored.words_among.Goals.{then-is_some+in_ok-push, else-is_some}
use Rattle.st_leaves.proofs.stored.words_among.Goals as goal

pub words-preserved : goal.words-preserved
words-preserved c =
    let names = c.args.names.now in
    let word = c.word-item.result in
    let there = ap (λ n. list_any (is_word n) names) (sym c.as_slice.ensures) ∙ sym (found names c.as_slice.result.now) ∙ ap is_some (sym c.find.ensures.number) ∙ sym c.is_some.ensures in
    elim c.if-is_some.branch [
      | then-is_some+in_ok-push w ↦
          ap (λ v. spelled v.items) w.among-is
          ∙ kept_more (λ n. list_any (is_word n) names) c.args.words.now c.words.word-index word c.words-test.true c.word-item.is c.words.among.items w.push.new.self.items c.words.invariant (there ∙ w.if-is_some.true)
          w.in_ok-push.ensures.items
      | else-is_some w ↦
          ap (λ v. spelled v.items) w.among-is
          ∙ left_out (λ n. list_any (is_word n) names) c.args.words.now c.words.word-index word c.words-test.true c.word-item.is c.words.among.items c.words.invariant (there ∙ w.if-is_some.false)
    ]
