use Rattle.std.proofs.Common.{◌≡◌, IfOk, ap, subst, sym, ◌∙◌}
use Rattle.st_leaves.specs.Charts.{associations_in, spelled}
use Rattle.st_leaves.proofs.NamesOnce.{none_stored, stored_are}
use Rattle.st_leaves.proofs.stored.stored_names.Goals as goal

pub returns-then-len-eq0 : goal.returns-then-len-eq0
returns-then-len-eq0 c = ap spelled c.new.ensures.items ∙ none_stored (associations_in c.args.elements.now) c.in_ok-set.set c.in_ok-set.ensures (sym c.len.ensures ∙ c.if-len-eq0.true)

pub returns : goal.returns
returns c =
    subst (λ names. IfOk c.words_among.result (λ words. spelled words.items ≡ names))
    (stored_are (associations_in c.args.elements.now) c.in_ok-set.set (spelled c.words.result.now) c.in_ok-set.ensures (c.words.ensures ∙ c.in_ok-names.ensures)) c.words_among.ensures
