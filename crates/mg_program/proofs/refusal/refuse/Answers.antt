use Rattle.std.proofs.Common.{inl}
use Rattle.mg_program.proofs.refusal.refuse.Goals as goal

pub returns-in-Usage : goal.returns-in-Usage
returns-in-Usage g c = rw c.in-Usage.is (inl c.say.ensures)

pub returns-in-ReadFault : goal.returns-in-ReadFault
returns-in-ReadFault g c = rw c.in-ReadFault.is (inl c.say-in-ReadFault.ensures)

pub returns-in-TooLong : goal.returns-in-TooLong
returns-in-TooLong g c = rw c.in-TooLong.is (inl c.say-in-TooLong.ensures)

pub returns-in-OutOfMemory : goal.returns-in-OutOfMemory
returns-in-OutOfMemory g c = rw c.in-OutOfMemory.is (inl c.say-in-OutOfMemory.ensures)

pub returns-in-BadScript : goal.returns-in-BadScript
returns-in-BadScript g c = rw c.in-BadScript.is c.refuse_script.ensures

pub returns-in-NoSuchJob : goal.returns-in-NoSuchJob
returns-in-NoSuchJob g c = rw c.in-NoSuchJob.is c.refuse_job.ensures
