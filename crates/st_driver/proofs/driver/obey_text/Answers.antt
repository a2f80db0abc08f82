use Rattle.std.proofs.Common.{sym}
use Rattle.st_driver.proofs.driver.obey_text.Goals as goal

pub returns-in-Check-clause-check_all : goal.returns-in-Check-clause-check_all
returns-in-Check-clause-check_all g c = λ verb works memory. rw (sym c.as_bytes-main.ensures.value) (c.check_text.ensures.all works memory)

pub returns-in-Check-clause-check_memory : goal.returns-in-Check-clause-check_memory
returns-in-Check-clause-check_memory g c = λ verb memory. c.check_text.ensures.memory memory

pub returns-in-Check-clause-check_part : goal.returns-in-Check-clause-check_part
returns-in-Check-clause-check_part g c = λ verb failed. rw (sym c.as_bytes-main.ensures.value) (c.check_text.ensures.part failed)

pub returns-in-Check-clause-long : goal.returns-in-Check-clause-long
returns-in-Check-clause-long g c = c.check_text.ensures.long

pub returns-in-Layout-clause-layout_all : goal.returns-in-Layout-clause-layout_all
returns-in-Layout-clause-layout_all g c = λ verb works memory. rw (sym c.as_bytes-main.ensures.value) (c.layout_text.ensures.all works memory)

pub returns-in-Layout-clause-layout_memory : goal.returns-in-Layout-clause-layout_memory
returns-in-Layout-clause-layout_memory g c = λ verb memory. c.layout_text.ensures.memory memory

pub returns-in-Layout-clause-layout_part : goal.returns-in-Layout-clause-layout_part
returns-in-Layout-clause-layout_part g c = λ verb failed. rw (sym c.as_bytes-main.ensures.value) (c.layout_text.ensures.part failed)

pub returns-in-Layout-clause-long : goal.returns-in-Layout-clause-long
returns-in-Layout-clause-long g c = c.layout_text.ensures.long

pub returns-in-Run-clause-run_all : goal.returns-in-Run-clause-run_all
returns-in-Run-clause-run_all g c = λ verb works memory. rw (sym c.as_bytes-main.ensures.value) (c.run_text_observed.ensures.all works memory)

pub returns-in-Run-clause-run_memory : goal.returns-in-Run-clause-run_memory
returns-in-Run-clause-run_memory g c = λ verb memory. rw (sym c.as_bytes-main.ensures.value) (c.run_text_observed.ensures.memory memory)

pub returns-in-Run-clause-run_part : goal.returns-in-Run-clause-run_part
returns-in-Run-clause-run_part g c = λ verb failed. rw (sym c.as_bytes-main.ensures.value) (c.run_text_observed.ensures.part failed)

pub returns-in-Run-clause-run_read : goal.returns-in-Run-clause-run_read
returns-in-Run-clause-run_read g c = λ verb failed. rw (sym c.as_bytes-main.ensures.value) (c.run_text_observed.ensures.read failed)

pub returns-in-Run-clause-long : goal.returns-in-Run-clause-long
returns-in-Run-clause-long g c = c.run_text_observed.ensures.long

pub returns-in-Run-clause-failed : goal.returns-in-Run-clause-failed
returns-in-Run-clause-failed g c = c.run_text_observed.ensures.failed
