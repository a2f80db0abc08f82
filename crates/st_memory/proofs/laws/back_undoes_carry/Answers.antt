use Rattle.st_memory.proofs.Moving.{moved_content_fits}
use Rattle.st_memory.proofs.GivenBack.{saved_content_holds, unmoved-moved, unmoved_fits}
use Rattle.st_memory.proofs.laws.back_undoes_carry.Goals as goal

pub returns-clause-back : goal.returns-clause-back
returns-clause-back c = λ old new pairs content pairing fits. unmoved-moved old new pairs pairing content fits

pub returns-clause-carried : goal.returns-clause-carried
returns-clause-carried c = λ old new pairs content sound pairing fits. moved_content_fits old new pairs content pairing sound.initial fits

pub returns-clause-saved : goal.returns-clause-saved
returns-clause-saved c = λ old new pairs content pairing fits. saved_content_holds old new pairs pairing content fits

pub returns-clause-returned : goal.returns-clause-returned
returns-clause-returned c = λ old new pairs content dropped pairing fits holds. unmoved_fits old new pairs pairing content dropped fits holds
