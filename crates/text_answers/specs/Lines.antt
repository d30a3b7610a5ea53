-- The lines of commands. This project's own.
use Rattle.std.specs.Prelude.{ℕ, List, ◌++◌, codes, decimal}

-- how many datagrams were read, how many packets are kept, and how many layers were shown
abbrev pub receive_text : ℕ → ℕ → ℕ → List ℕ
receive_text read kept shown =
    codes "read " ++ decimal read ++ codes " kept " ++ decimal kept ++ codes " shown " ++ decimal shown ++ codes "\n"

-- how many datagrams of two stores the merged store has
abbrev pub merged_text : ℕ → List ℕ
merged_text datagrams = codes "merged " ++ decimal datagrams ++ codes "\n"

-- how many bytes the video of a store has
abbrev pub video_text : ℕ → List ℕ
video_text bytes = codes "video " ++ decimal bytes ++ codes "\n"

-- how many bytes the video of a system stream has
abbrev pub unwrapped_text : ℕ → List ℕ
unwrapped_text bytes = codes "unwrapped " ++ decimal bytes ++ codes "\n"

-- how many bytes the system stream has that wraps a video
abbrev pub wrapped_text : ℕ → List ℕ
wrapped_text bytes = codes "wrapped " ++ decimal bytes ++ codes "\n"

-- how many groups were whole, and how many packets of them were sent
abbrev pub repaired_text : ℕ → ℕ → List ℕ
repaired_text groups packets =
    codes "repaired " ++ decimal groups ++ codes " datagrams " ++ decimal packets ++ codes "\n"

-- how many datagrams were read, and how many were sent
abbrev pub relay_text : ℕ → ℕ → List ℕ
relay_text read sent = codes "read " ++ decimal read ++ codes " sent " ++ decimal sent ++ codes "\n"

-- how many datagrams the migrated store has
abbrev pub migrated_text : ℕ → List ℕ
migrated_text datagrams = codes "migrated " ++ decimal datagrams ++ codes "\n"
