-- What the calls leave of record and store.
use Rattle.std.specs.Prelude.{ℕ, ◌+◌, ◌-◌, ◌++◌, length, set, take, drop, replicate}
use Rattle.meaning.specs.Bytes.{Bytes}
use Rattle.whole.specs.declared.Record.{Record}

-- a fresh record
abbrev pub fresh_record : Record
fresh_record = record {
  last = 0;
  used = 0;
  question = record {
    number = 0;
    entries = 0;
    parts = 0;
    layout = replicate 32 0;
    heard = replicate 32 0;
    place = replicate 32 0;
    size = replicate 32 0;
  };
}

-- a question just opened: nothing is heard or used, and past the layout stand zeros
abbrev pub opened_as : Bytes → ℕ → ℕ → Record
opened_as layout entries number = record {
  last = number;
  used = 0;
  question = record {
    number = number;
    entries = entries;
    parts = length layout;
    layout = layout ++ replicate (32 - length layout) 0;
    heard = replicate 32 0;
    place = replicate 32 0;
    size = replicate 32 0;
  };
}

-- n bytes of fragment f put at the end of the used part
abbrev pub noted : Record → ℕ → ℕ → Record
noted d f n = record {
  last = d.last;
  used = d.used + n;
  question = record {
    number = d.question.number;
    entries = d.question.entries;
    parts = d.question.parts;
    layout = d.question.layout;
    heard = set d.question.heard f 1;
    place = set d.question.place f d.used;
    size = set d.question.size f n;
  };
}

-- the store with s at the place u, and every other byte as it was
abbrev pub put_at : ℕ → Bytes → Bytes → Bytes
put_at u s store = take u store ++ (s ++ drop (u + length s) store)
