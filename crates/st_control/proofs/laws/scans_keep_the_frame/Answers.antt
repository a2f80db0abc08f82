use Rattle.st_control.proofs.ScanStates.{scans_keep_frame, scans_keep_whole, scans_start_anew}
use Rattle.st_control.proofs.laws.scans_keep_the_frame.Goals as goal

pub returns-clause-frame : goal.returns-clause-frame
returns-clause-frame c = scans_keep_frame

pub returns-clause-whole : goal.returns-clause-whole
returns-clause-whole c = scans_keep_whole

pub returns-clause-anew : goal.returns-clause-anew
returns-clause-anew c = scans_start_anew
