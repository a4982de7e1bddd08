-- What a command did, as one line of JSON.
use Rattle.std.specs.Prelude.{ℕ, List, [], ◌∷◌, ◌++◌, codes, Bool, if◌then◌else◌}
use Rattle.std.specs.Fmt.{decimal}
use Rattle.std.specs.List.{flat_map}
use Rattle.fw_console.specs.declared.summary.Member.{Member}

-- a text in quotes
abbrev pub quoted : List ℕ → List ℕ
quoted text = 34 ∷ (text ++ (34 ∷ []))

-- a further member of an object
unfoldable pub member_text : Member → List ℕ
member_text member = 44 ∷ (quoted member.name.now ++ (58 ∷ decimal member.count))

-- further members, in order
abbrev pub members_text : List Member → List ℕ
members_text members = flat_map member_text members

-- The whole line: the command, whether it ended well, and what it tells
unfoldable pub summary_text : List ℕ → Bool → List Member → List ℕ
summary_text command is_well members =
    codes "{\"command\":\"" ++ (command ++ (codes "\",\"ok\":" ++ ((if is_well then codes "true" else codes "false") ++ (members_text members ++ codes "}\n"))))
