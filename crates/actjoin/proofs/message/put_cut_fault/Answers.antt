use Rattle.actjoin.proofs.message.put_cut_fault.Goals as goal

pub returns-in-LineLong : goal.returns-in-LineLong
returns-in-LineLong g c = rw c.in-LineLong.is c.put.ensures

pub returns-in-Lines : goal.returns-in-Lines
returns-in-Lines g c = rw c.in-Lines.is c.put-in-Lines.ensures

pub returns-in-NoMemory : goal.returns-in-NoMemory
returns-in-NoMemory g c = rw c.in-NoMemory.is c.put-in-NoMemory.ensures
