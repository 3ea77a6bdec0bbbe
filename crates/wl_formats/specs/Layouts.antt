-- The lines of each command.
use Rattle.wl_formats.specs.declared.tables.Subject.{Subject}
use Rattle.wl_formats.specs.declared.tables.Subject.TheVariants as subject
use Rattle.wl_formats.specs.Shapes.{Layout}
use Rattle.wl_formats.specs.RunLines.{run_layout}
use Rattle.wl_formats.specs.CheckLines.{check_layout}
use Rattle.wl_formats.specs.ExplainLines.{explain_layout}
use Rattle.wl_formats.specs.MarginLines.{margin_layout}
use Rattle.wl_formats.specs.TraceLines.{trace_layout}
use Rattle.wl_formats.specs.TrafficLines.{traffic_layout}
use Rattle.wl_formats.specs.SweepLines.{sweep_layout}
use Rattle.wl_formats.specs.SpikeLines.{spikes_layout}
use Rattle.wl_formats.specs.JudgeLines.{judge_layout}
use Rattle.wl_formats.specs.SettingsLines.{settings_layout}

abbrev pub layout : Subject → Layout
layout subject.Run = run_layout
layout subject.Check = check_layout
layout subject.Explain = explain_layout
layout subject.Margin = margin_layout
layout subject.Trace = trace_layout
layout subject.Traffic = traffic_layout
layout subject.Sweep = sweep_layout
layout subject.Spikes = spikes_layout
layout subject.Judge = judge_layout
layout subject.Settings = settings_layout
