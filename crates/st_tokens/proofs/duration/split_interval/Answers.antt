use Rattle.std.proofs.Common.{◌≡◌, ◌+◌, ◌-◌, ◌≤◌, ℕ, List, ◌∷◌, ◌++◌, length, take, drop, sym, ap, ◌∙◌, true, subst}
use Rattle.std.specs.Prelude.{codes}
use Rattle.st_values.specs.Words.{begins_with}
use Rattle.st_tokens.specs.Scanning.{run, after_run, ends_in_digit, has_fraction, fraction_of}
use Rattle.st_tokens.proofs.Intervals.{split_at_fraction}
use Rattle.st_tokens.proofs.Runs.{take_rest}
use Rattle.st_tokens.proofs.Cases.{both_true}
use Rattle.st_tokens.proofs.duration.split_interval.Goals.{After-run_len}
use Rattle.st_tokens.proofs.duration.split_interval.Goals as goal

-- where the text is split
record Place (text : List ℕ) (at : ℕ) : Type 0 where
  pub has : has_fraction text ≡ true
  pub parts : (take at text ≡ run text ++ 46 ∷ run (fraction_of text)) × (drop at text ≡ after_run (fraction_of text)) × (at ≤ length text)

place : (c : After-run_len) → Place c.args.text.now (length c.split_run.result.0.now + 1 + c.run_len.result)
place c =
    let rest = c.split_run.result.1.now in
    let ends = sym (ap ends_in_digit c.split_run.ensures.prefix) ∙ sym c.ends_in_digit.ensures ∙ c.if-ends_in_digit.true in
    let point : begins_with (codes ".") (after_run c.args.text.now) ≡ true =
    subst (λ zs. begins_with (codes ".") zs ≡ true) c.split_run.ensures.rest (sym c.starts_with.ensures.value ∙ c.if-starts_with.true) in
    let has : has_fraction c.args.text.now ≡ true = both_true ends point in
    let tail : take (length rest - 1) (drop 1 rest) ≡ fraction_of c.args.text.now =
    take_rest 1 rest ∙ ap (λ (zs : List ℕ). drop 1 zs) c.split_run.ensures.rest in
    let parts = split_at_fraction c.args.text.now (take (length rest - 1) (drop 1 rest)) _ _ c.run_len.result has tail
    c.run_len.ensures.prefix c.run_len.ensures.rest c.run_len.ensures.within in
    let size : length c.split_run.result.0.now + 1 + c.run_len.result ≡ length (run c.args.text.now) + 1 + c.run_len.result =
    ap (λ (zs : List ℕ). length zs + 1 + c.run_len.result) c.split_run.ensures.prefix in
    record {
      has = has;
      parts = (
        rw size (parts.0 ∙ ap (λ (zs : List ℕ). run c.args.text.now ++ 46 ∷ run zs) tail),
        rw size (parts.1 ∙ ap after_run tail),
        rw size parts.2,
      );
    }

pub split_at-requires : goal.split_at-requires
split_at-requires c = (place c).parts.2

pub returns-then-starts_with-clause-prefix : goal.returns-then-starts_with-clause-prefix
returns-then-starts_with-clause-prefix c = let p = place (goal.at-returns-then-starts_with-clause-prefix c).After-run_len in let t = p.has in
    rw t (c.split_at.ensures.front ∙ p.parts.0)

pub returns-then-starts_with-clause-rest : goal.returns-then-starts_with-clause-rest
returns-then-starts_with-clause-rest c = let p = place (goal.at-returns-then-starts_with-clause-rest c).After-run_len in let t = p.has in
    rw t (c.split_at.ensures.back ∙ p.parts.1)
