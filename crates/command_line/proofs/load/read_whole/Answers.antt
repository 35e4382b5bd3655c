use Rattle.std.proofs.Common.{refl}
use Rattle.command_line.proofs.Loading.{longer, not_read, stop_of_folder, stop_of_length, stop_of_room, without_room}
use Rattle.command_line.proofs.load.read_whole.Goals as goal

pub returns-in-TooLong-clause-stops : goal.returns-in-TooLong-clause-stops
returns-in-TooLong-clause-stops g c =
    longer c.args.kind c.most_bytes.result ((g.F.Folder.seen c.args.files.now).files c.args.name.now) c.most_bytes.ensures (c.in-TooLong.ensures.too_long refl)

pub returns-in-Failed-clause-stops : goal.returns-in-Failed-clause-stops
returns-in-Failed-clause-stops g c = not_read c.args.kind ((g.F.Folder.seen c.args.files.now).files c.args.name.now)

pub returns-in-NoMemory-clause-stops : goal.returns-in-NoMemory-clause-stops
returns-in-NoMemory-clause-stops g c = without_room c.args.kind ((g.F.Folder.seen c.args.files.now).files c.args.name.now)

pub returns-in-TooLong-clause-other : goal.returns-in-TooLong-clause-other
returns-in-TooLong-clause-other g c = stop_of_length c.args.kind

pub returns-in-Failed-clause-other : goal.returns-in-Failed-clause-other
returns-in-Failed-clause-other g c = stop_of_folder c.args.kind

pub returns-in-NoMemory-clause-other : goal.returns-in-NoMemory-clause-other
returns-in-NoMemory-clause-other g c = stop_of_room c.args.kind
