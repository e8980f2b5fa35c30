-- The state with another engine, and the fields of an engine that a step inside a blit moves on.
use Rattle.xosera.specs.declared.Engine.{Engine}
use Rattle.xosera.specs.State.{State}

abbrev pub with_engine : State → Engine → State
with_engine s e = record { host = s.host; queued = s.queued; status = s.status; engine = e; video = s.video; blit = s.blit; beam = s.beam }

-- Engine e with the line, word, kept word, source and destination of f.
abbrev pub moving : Engine → Engine → Engine
moving e f = record {
  running = e.running;
  line = f.line;
  word = f.word;
  kept = f.kept;
  regs = record {
    ctrl = e.regs.ctrl;
    andc = e.regs.andc;
    xor = e.regs.xor;
    mods = e.regs.mods;
    srcs = f.regs.srcs;
    modd = e.regs.modd;
    dstd = f.regs.dstd;
    shift = e.regs.shift;
    lines = e.regs.lines;
    words = e.regs.words;
  };
}
