use Rattle.actjoin.proofs.message.put_line_fault.Goals as goal

pub returns-in-Kind : goal.returns-in-Kind
returns-in-Kind g c = rw c.in-Kind.is c.put.ensures

pub returns-in-Fields : goal.returns-in-Fields
returns-in-Fields g c = rw c.in-Fields.is c.put-in-Fields.ensures

pub returns-in-PointId : goal.returns-in-PointId
returns-in-PointId g c = rw c.in-PointId.is c.put-in-PointId.ensures

pub returns-in-Threshold : goal.returns-in-Threshold
returns-in-Threshold g c = rw c.in-Threshold.is c.put-in-Threshold.ensures

pub returns-in-Range : goal.returns-in-Range
returns-in-Range g c = rw c.in-Range.is c.put-in-Range.ensures

pub returns-in-NoMemory : goal.returns-in-NoMemory
returns-in-NoMemory g c = rw c.in-NoMemory.is c.put-in-NoMemory.ensures
