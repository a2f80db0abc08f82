use Rattle.st_types.proofs.standard.StandardBlock.row.Goals as goal

pub returns-in-RTrig : goal.returns-in-RTrig
returns-in-RTrig c = rw c.in-RTrig.is c.row.ensures

pub returns-in-FTrig : goal.returns-in-FTrig
returns-in-FTrig c = rw c.in-FTrig.is c.row-in-FTrig.ensures

pub returns-in-Sr : goal.returns-in-Sr
returns-in-Sr c = rw c.in-Sr.is c.row-in-Sr.ensures

pub returns-in-Rs : goal.returns-in-Rs
returns-in-Rs c = rw c.in-Rs.is c.row-in-Rs.ensures

pub returns-in-Ctu : goal.returns-in-Ctu
returns-in-Ctu c = rw c.in-Ctu.is c.row-in-Ctu.ensures

pub returns-in-Ctd : goal.returns-in-Ctd
returns-in-Ctd c = rw c.in-Ctd.is c.row-in-Ctd.ensures

pub returns-in-Ton : goal.returns-in-Ton
returns-in-Ton c = rw c.in-Ton.is c.row-in-Ton.ensures

pub returns-in-Tof : goal.returns-in-Tof
returns-in-Tof c = rw c.in-Tof.is c.row-in-Tof.ensures

pub returns-in-Tp : goal.returns-in-Tp
returns-in-Tp c = rw c.in-Tp.is c.row-in-Tp.ensures
