use Rattle.std.proofs.Common.{◌≡◌, ◌+◌, [], ◌∷◌, ◌++◌, ap, subst, ◌∙◌, rules, arith, length, length-append}
use Rattle.std.specs.Prelude.{MatchOption}
use Rattle.st_check.specs.Recursions.{HasNoneFrom, IsFirstOfUnitsFrom}
use Rattle.st_explain.proofs.Ordered.{from_first, from_push, later_of, of_none}
use Rattle.st_explain.proofs.all.faults_from.Goals as goal

pub later-init : goal.later-init
later-init c =
    let e : c.push.new.self.items ≡ c.args.first ∷ [] = c.in_ok-push.ensures.items ∙ ap (λ xs. xs ++ c.args.first ∷ []) c.new-faults.ensures.items in record {
      from = from_first c.args.tables.now c.args.first c.push.new.self.items e;
      few = omega (arith, ap length e, c.requires);
    }

pub later-preserved : goal.later-preserved
later-preserved c =
    let start = c.later.last.position.number + 1 in
    record {
      from = from_push c.args.tables.now c.args.first c.later.faults.items c.push-in-later.new.self.items c.later.last c.in-Some.fault c.in_ok-push-2.ensures.items c.later.invariant.from
          (subst (λ o. MatchOption o (HasNoneFrom start c.args.tables.now) (IsFirstOfUnitsFrom start c.args.tables.now)) c.in-Some.is c.in_ok-fault.ensures);
      few = omega (arith, ap length c.in_ok-push-2.ensures.items ∙ length-append c.later.faults.items (c.in-Some.fault ∷ []), c.later-test.true);
    }

pub returns-in_default : goal.returns-in_default
returns-in_default c =
    let start = c.later.last.position.number + 1 in
    later_of c.args.tables.now c.args.most c.args.first c.later.faults.items c.later.last c.later.invariant.from c.later.invariant.few
    (λ below. of_none (HasNoneFrom start c.args.tables.now) (IsFirstOfUnitsFrom start c.args.tables.now) c.in_ok-fault.field-0 c.in_ok-fault.ensures (search rules))

pub returns : goal.returns
returns c =
    later_of c.args.tables.now c.args.most c.args.first c.later.faults.items c.later.last c.later.invariant.from c.later.invariant.few
    (λ below. absurd (omega (arith, below, c.later-test.false)))
