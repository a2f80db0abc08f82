use Rattle.std.specs.Prelude.{None}
use Rattle.std.proofs.Common.{rules}
use Rattle.st_driver.proofs.Told.{writes_status}
use Rattle.st_driver.proofs.driver.serve_observed.Goals as goal

pub returns : goal.returns
returns g c = record {
  check = search rules;
  layout = search rules;
  run = λ run works memory.
      let all = c.obey_text.ensures.run_all run works memory in
      (all.2.0, all.2.1, (all.0, writes_status all.0 c.obey_text.result None None all.2.0 all.2.2));
}
