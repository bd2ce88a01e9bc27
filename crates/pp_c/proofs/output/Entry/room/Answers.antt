use Rattle.pp_c.proofs.output.Entry.room.Goals as goal

pub returns-in-Some : goal.returns-in-Some
returns-in-Some c = rw c.in-Some.is (c.room_of_text.ensures c.args.self.now.item)
