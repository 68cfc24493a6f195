use Rattle.std.proofs.Common.{◌≡◌, drop, map}
use Rattle.mdb_ports.specs.MemFiles.{listed}
use Rattle.mdb_ports.proofs.file_list.FileList.find.Given as goal

-- none of the files so far has the name
abbrev pub invariant-loop-file : goal.invariant-loop-file
invariant-loop-file l =
    listed (map (λ f. (f.0, f.1.items)) (drop l.file-index l.file-items)) l.name ≡ listed (map (λ f. (f.0, f.1.items)) l.file-items) l.name
